-- A text that is read names no out twice.
use Rattle.std.proofs.Common.{◌≡◌, ℕ, Bool, true, false, cond, ◌||◌, List, [], ◌∷◌, ◌++◌, Option, Some, None, Result}
use Rattle.std.proofs.Common.{Ok, append_assoc, append-nil, sym, subst, refl, arith}
use Rattle.std.specs.List.{flat_map, IsDistinct}
use Rattle.std.specs.Str.{bytes_eq}
use Rattle.std.proofs.lemmas.Cmp.{nat_list_eq_equiv}
use Rattle.std.proofs.lemmas.List.Folds.{flat_map-map}
use Rattle.std.proofs.lemmas.Map.Keys.{IsDistinct-push, IsDistinct-from_apart}
use Rattle.ninja_file.specs.declared.file.NinjaFile.{NinjaFile}
use Rattle.ninja_file.specs.declared.file.Statement.{Statement}
use Rattle.ninja_read.specs.Book.{Book, has_text, book_file, statements_of, outs_of_book, no_book}
use Rattle.ninja_read.specs.Meaning.{repeats, repeated_out, refused_line, or_line, unless_refused, stray, read_lines}
use Rattle.ninja_read.specs.Meaning.{reading}
use Rattle.ninja_file.specs.Meaning.{AllDiffer, outs_of}
use Rattle.ninja_lines.specs.Meaning.{joined_lines}
use Rattle.std.proofs.lemmas.Map.Made.{AllPairs-from_IsDistinct}
use Rattle.std.proofs.lemmas.Slice.Eq.{bytes_eq-Decides}

first_false : (a b : Bool) → (a || b) ≡ false → a ≡ false
first_false true b h = absurd (cc)
first_false false b h = refl

second_false : (a b : Bool) → (a || b) ≡ false → b ≡ false
second_false true b h = absurd (cc)
second_false false b h = h

distinct_more : (seen outs : List (List ℕ)) → repeats seen outs ≡ false → IsDistinct bytes_eq seen
    → IsDistinct bytes_eq (seen ++ outs)
distinct_more seen [] h d = subst (IsDistinct bytes_eq) (sym (append-nil seen)) d
distinct_more seen (out ∷ outs) h d =
    let new = IsDistinct-push nat_list_eq_equiv seen out d
    (first_false (has_text seen out) (repeats (seen ++ out ∷ []) outs) h) in
    subst (IsDistinct bytes_eq) (append_assoc seen (out ∷ []) outs)
    (distinct_more (seen ++ out ∷ []) outs (second_false (has_text seen out) (repeats (seen ++ out ∷ []) outs) h) new)

distinct_by : (seen : List (List ℕ)) (s : ℕ × Statement) (more : List (ℕ × Statement)) (e : Bool)
    → repeats seen s.1.outs ≡ e → cond e (Some s.0) (repeated_out (seen ++ s.1.outs) more) ≡ None
    → IsDistinct bytes_eq seen → ((IsDistinct bytes_eq (seen ++ s.1.outs)) → repeated_out (seen ++ s.1.outs) more ≡ None
    → IsDistinct bytes_eq ((seen ++ s.1.outs) ++ flat_map (λ t. t.1.outs) more))
    → IsDistinct bytes_eq ((seen ++ s.1.outs) ++ flat_map (λ t. t.1.outs) more)
distinct_by seen s more true is h d rest = absurd (cc)
distinct_by seen s more false is h d rest = rest (distinct_more seen s.1.outs is d) h

distinct_all : (seen : List (List ℕ)) (statements : List (ℕ × Statement)) → repeated_out seen statements ≡ None
    → IsDistinct bytes_eq seen → IsDistinct bytes_eq (seen ++ flat_map (λ t. t.1.outs) statements)
distinct_all seen [] h d = subst (IsDistinct bytes_eq) (sym (append-nil seen)) d
distinct_all seen (s ∷ more) h d =
    subst (IsDistinct bytes_eq) (append_assoc seen s.1.outs (flat_map (λ t. t.1.outs) more))
    (distinct_by seen s more (repeats seen s.1.outs) refl h d (λ e k. distinct_all (seen ++ s.1.outs) more k e))

first_none : (a b : Option ℕ) → or_line a b ≡ None → a ≡ None
first_none None b h = refl
first_none (Some line) b h = absurd (cc)

same_Ok : (a b : NinjaFile) → ◌≡◌ {A = Result NinjaFile ℕ} (Ok a) (Ok b) → a ≡ b
same_Ok a b h = cc

none_refused : (line : Option ℕ) (file f : NinjaFile) → unless_refused line file ≡ Ok f → (line ≡ None) × (file ≡ f)
none_refused None file f h = (refl, same_Ok file f h)
none_refused (Some line) file f h = absurd (cc)

differ_in : (read : Book × Option ℕ) (f : NinjaFile)
    → unless_refused (refused_line read.0 read.1) (book_file read.0) ≡ Ok f → AllDiffer (outs_of f)
differ_in read f h =
    let parts = none_refused (refused_line read.0 read.1) (book_file read.0) f h in
    let none : repeated_out [] (statements_of read.0) ≡ None = first_none (repeated_out [] (statements_of read.0))
    (or_line read.1 (stray (outs_of_book read.0) read.0.defaults)) parts.0 in
    let all : AllDiffer (flat_map (λ t. t.1.outs) (statements_of read.0)) =
    AllPairs-from_IsDistinct bytes_eq-Decides _ (distinct_all [] (statements_of read.0) none
    (IsDistinct-from_apart bytes_eq [] (λ i j d before inside. absurd (omega arith)))) in
    subst (λ g. AllDiffer (outs_of g)) parts.1
    (subst AllDiffer (sym (flat_map-map (λ s. s.outs) (λ t. t.1) (statements_of read.0))) all)

pub outs_differ : (text : List ℕ) (f : NinjaFile) → reading text ≡ Ok f → AllDiffer (outs_of f)
outs_differ text f h = differ_in (read_lines no_book (joined_lines text)) f h
