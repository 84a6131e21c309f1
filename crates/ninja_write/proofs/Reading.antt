-- What is written can be read back.
use Rattle.std.proofs.Common.{◌≡◌, ℕ, Bool, true, false, cond, List, [], ◌∷◌, ◌++◌, eqb, arith, ap, refl, sym, ◌∙◌}
use Rattle.std.proofs.lemmas.Bool.Decides.{nat_tests}
use Rattle.ninja_file.specs.declared.escape.Escape.{Escape}
use Rattle.ninja_file.specs.declared.escape.Escape.TheVariants.{Path, Value}
use Rattle.ninja_file.specs.Escapes.{is_escaped}
use Rattle.ninja_write.specs.Escaped.{escaped_byte, escaped_bytes, path_text, value_text}
use Rattle.bp_faults.specs.Characters.{dollar, space}

-- The text without its escapes: a dollar goes, and the byte behind it stays whatever it is.
abbrev pub unescaped : Bool → List ℕ → List ℕ
unescaped behind [] = []
unescaped true (b ∷ bytes) = b ∷ unescaped false bytes
unescaped false (b ∷ bytes) = cond (eqb b dollar) (unescaped true bytes) (b ∷ unescaped false bytes)

-- a byte that isn't escaped is no dollar
no_dollar : (escape : Escape) (b : ℕ) → is_escaped escape b ≡ false → eqb b dollar ≡ false
no_dollar Path b e = grind (arith, nat_tests)
no_dollar Value b e = e

unescaped-byte : (escape : Escape) (b : ℕ) (rest : List ℕ) (e : Bool) → is_escaped escape b ≡ e
    → unescaped false (escaped_byte escape b ++ rest) ≡ b ∷ unescaped false rest
unescaped-byte escape b rest true e = rw e refl
unescaped-byte escape b rest false e = rw e (rw (no_dollar escape b e) refl)

pub unescaped-escaped : (escape : Escape) (bytes : List ℕ) → unescaped false (escaped_bytes escape bytes) ≡ bytes
unescaped-escaped escape [] = refl
unescaped-escaped escape (b ∷ bytes) =
    unescaped-byte escape b (escaped_bytes escape bytes) (is_escaped escape b) refl
    ∙ ap (λ more. b ∷ more) (unescaped-escaped escape bytes)

unescaped-lead : (b : ℕ) (rest : List ℕ) (e : Bool) → eqb b space ≡ e
    → unescaped false (cond (eqb b space) (dollar ∷ []) [] ++ (escaped_byte Value b ++ rest)) ≡ b ∷ unescaped false rest
unescaped-lead b rest true e =
    let plain : eqb b dollar ≡ false = grind (arith, nat_tests) in
    rw (e, plain) refl
unescaped-lead b rest false e = rw e (unescaped-byte Value b rest (is_escaped Value b) refl)

pub unescaped-value_text : (value : List ℕ) → unescaped false (value_text value) ≡ value
unescaped-value_text [] = refl
unescaped-value_text (b ∷ bytes) =
    unescaped-lead b (escaped_bytes Value bytes) (eqb b space) refl
    ∙ ap (λ more. b ∷ more) (unescaped-escaped Value bytes)

pub paths_apart : (a b : List ℕ) → path_text a ≡ path_text b → a ≡ b
paths_apart a b e = sym (unescaped-escaped Path a) ∙ ap (unescaped false) e ∙ unescaped-escaped Path b

pub values_apart : (a b : List ℕ) → value_text a ≡ value_text b → a ≡ b
values_apart a b e = sym (unescaped-value_text a) ∙ ap (unescaped false) e ∙ unescaped-value_text b
