use Rattle.std.proofs.Common.{rules, ◌≡◌, ◌≤◌, length, false, ap, sym, subst, ◌∙◌, Ok, None, cond, take}
use Rattle.std.specs.Str.{bytes_eq}
use Rattle.bp_faults.specs.Answers.{then_do}
use Rattle.bp_parser.specs.Trees.{tree_of}
use Rattle.bp_values.specs.Values.{meaning}
use Rattle.bp_values.specs.Scopes.{pairs_of}
use Rattle.bp_values.specs.Inside.{known_of, is_noted}
use Rattle.bp_values.specs.Meaning.{with_other}
use Rattle.bp_values.specs.KeptIndices.{kept_for}
use Rattle.bp_values.proofs.Noted.{noted_is}
use Rattle.bp_values.proofs.Pairs.{other_again}
use Rattle.bp_values.proofs.Kept.{kept_extended}
use Rattle.bp_values.proofs.Scopes.{outer_with_other, length_with_other, value_with_other}
use Rattle.bp_values.proofs.Setting.{is_extended, known}
use Rattle.bp_values.proofs.file.extend.Goals as goal

pub returns-clause-known : goal.returns-clause-known
returns-clause-known c =
    let scope = pairs_of c.args.state.now.scope in
    let now = known_of c.args.state.now in
    let name = c.args.name.now in
    let e = tree_of c.args.term.now in
    let v = meaning c.in_ok-new.new in
    let unused : now.is_used name ≡ false = search rules in
    let whole =
    is_extended scope now.is_used (is_noted c.mark.new.used) now.modules name c.args.at e (meaning c.in_ok-old.old)
    (meaning c.in_ok-other.other)
    c.in_ok-old.ensures.old unused c.in_ok-other.ensures (λ q. c.in_ok-mark.ensures q ∙ noted_is e (now.is_used q) q) in
    let put = c.in_ok-replace.ensures.pairs
    ∙ ap (λ l. with_other l name v) c.in_ok-old.ensures.pairs
    ∙ other_again name _ v scope in
    whole
    ∙ ap (λ r. then_do r (λ v. Ok (known (with_other scope name v) (is_noted c.mark.new.used) now.modules)))
    c.in_ok-new.ensures.value
    ∙ ap (λ pairs. Ok (known pairs (is_noted c.mark.new.used) now.modules)) (sym put)

pub returns-clause-inherited : goal.returns-clause-inherited
returns-clause-inherited c =
    let scope = pairs_of c.args.state.now.scope in
    let name = c.args.name.now in
    let n = c.args.state.now.inherited in
    let v = meaning c.in_ok-new.new in
    let put = c.in_ok-replace.ensures.pairs
    ∙ ap (λ l. with_other l name v) c.in_ok-old.ensures.pairs
    ∙ other_again name _ v scope in
    ap (take n) put ∙ outer_with_other n scope name v c.requires.own

pub replace-requires-2 : goal.replace-requires-2
replace-requires-2 c =
    value_with_other (pairs_of c.args.state.now.scope) (pairs_of c.replace.new.self) c.args.name.now _
    (sym c.in_ok-old.ensures.old) c.in_ok-old.ensures.pairs

pub returns-clause-consistent : goal.returns-clause-consistent
returns-clause-consistent c =
    let scope = pairs_of c.args.state.now.scope in
    let name = c.args.name.now in
    let v = meaning c.in_ok-new.new in
    let kept = kept_for c.args.state.now.kept in
    let put = c.in_ok-replace.ensures.pairs
    ∙ ap (λ l. with_other l name v) c.in_ok-old.ensures.pairs
    ∙ other_again name _ v scope in
    record {
      within =
          subst (λ l. c.args.state.now.inherited ≤ l)
          (sym (ap length put ∙ length_with_other scope name v)) c.requires.consistent.within;
      indices =
          kept_extended kept (kept_for c.keep.new.self) (kept_for c.keep-2.new.self) scope
          (pairs_of c.replace-2.new.self) name v (meaning c.in_ok-old.old) c.in_ok-new.indices
          (sym c.in_ok-old.ensures.old)
          (λ q. c.in_ok-indices.ensures.kept q ∙ ap (λ n. cond (bytes_eq n q) None (kept q)) c.as_str-variable.ensures)
          (λ q. c.in_ok-keep.ensures.kept q
          ∙ ap (λ n. cond (bytes_eq n q) c.in_ok-new.indices (kept_for c.keep.new.self q)) c.as_str-variable.ensures)
          put c.in_ok-new.ensures.indices c.requires.consistent.indices;
    }
