use Rattle.std.proofs.Common.{◌≡◌, ℕ, take, ◌-◌, arith, ap, sym, ◌∙◌, lit<}
use Rattle.std.specs.Prelude.{Option, Some, None, IsSome, IfSome, unwrap_or, true}
use Rattle.std.proofs.lemmas.Str.Pattern.{rfind_char}
use Rattle.bp_faults.specs.Paths.{is_normal}
use Rattle.bp_load.specs.Directories.{directory_of}
use Rattle.bp_load.proofs.Cut.{cut_directory, cut_normal, whole_directory}
use Rattle.bp_load.proofs.parsed.dir_of.Goals as goal

from_start : (n : ℕ) → n - 0 ≡ n
from_start n = omega arith

given : {X : Type 0} (r : Option X) (d x : X) → IsSome r → IfSome r (λ y. y ≡ x) → unwrap_or r d ≡ x
given None d x some same = absurd (cc)
given (Some y) d x some same = same

pub returns-in_ok-dir-in-Some : goal.returns-in_ok-dir-in-Some
returns-in_ok-dir-in-Some c =
    let text = c.as_str-path.result.now in
    let path : text ≡ c.args.file.now = c.as_str-path.ensures ∙ c.as_text.ensures.same in
    let found = rfind_char 47 text (Some c.in-Some.end) c.in-Some.ensures.cases (lit< tt) in
    let dir : c.in_ok-dir-in-Some.dir ≡ take c.in-Some.end text =
    c.in_ok-dir-in-Some.ensures ∙ c.range.ensures.value ∙ ap (λ n. take n text) (from_start c.in-Some.end) in
    let normal : is_normal c.in_ok-dir-in-Some.dir ≡ true =
    ap is_normal dir
    ∙ cut_normal text c.in-Some.end found.0 found.1 found.2
    (ap is_normal (c.as_str-path.ensures ∙ c.as_text.ensures.same) ∙ c.as_text.ensures.normal) in
    c.unwrap_or.ensures
    ∙ given c.new.result c.root.result c.in_ok-dir-in-Some.dir (c.new.ensures.normal.1 normal) c.new.ensures.same
    ∙ dir ∙ sym (cut_directory text c.in-Some.end found.0 found.1 found.2) ∙ ap directory_of path

pub returns-in-None : goal.returns-in-None
returns-in-None c =
    let text = c.as_str-path.result.now in
    let path : text ≡ c.args.file.now = c.as_str-path.ensures ∙ c.as_text.ensures.same in
    c.root-in-None.ensures
    ∙ sym (whole_directory text (rfind_char 47 text None c.in-None.ensures.cases (lit< tt)))
    ∙ ap directory_of path
