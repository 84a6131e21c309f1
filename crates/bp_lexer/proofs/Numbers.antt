-- What `parse` says of an integer token.
use Rattle.std.proofs.Common.{◌≡◌, ℕ, ◌+◌, ◌-◌, Bool, true, List, ◌∷◌, take, drop, refl, ℤ, ap, ◌∙◌, subst, ⊎_elim}
use Rattle.std.proofs.Common.{arith, rules, Result, Ok, Err, is_ok}
use Rattle.std.specs.Prelude.{IsTrue}
use Rattle.std.specs.Int.{w64}
use Rattle.std.specs.List.{list_all, slice_range}
use Rattle.std.specs.Str.Parse.{ParsesSigned, IsNumeral, digits_value, without_leading_sign}
use Rattle.std.proofs.lemmas.Bool.{and_from, false≢true}
use Rattle.std.proofs.lemmas.Bool.Decides.{nat_tests}
use Rattle.std.proofs.lemmas.Str.Parse.{IsNumeralModel, numerals_by_value}
use Rattle.bp_lexer.specs.declared.token.TokenKind.TheVariants.{Int}
use Rattle.bp_lexer.specs.Classes.{is_digit}
use Rattle.bp_lexer.specs.Forms.{IsForm}
use Rattle.bp_lexer.specs.Faults.{IsInRange}
use Rattle.bp_lexer.proofs.TokenKinds.{int_parts}

own : IsNumeralModel (λ ds. list_all is_digit ds ≡ true) (digits_value 10)
own = numerals_by_value _ (search rules)

no_sign : (b : ℕ) (w : List ℕ) → is_digit b ≡ true → without_leading_sign (b ∷ w) ≡ b ∷ w
no_sign b w digit = grind (arith, nat_tests)

pub numeral : (word : List ℕ) → IsForm Int word → IsNumeral 10 (without_leading_sign word)
numeral word form =
    let int = int_parts word form in
    ⊎_elim
    (λ minus. rw (int.2.begins, minus.0) (minus.1, own.to int.1 int.2.digits))
    (λ digit.
    let sign = no_sign int.0 int.1 digit in
    rw (int.2.begins, sign) (omega arith, own.to (int.0 ∷ int.1) (and_from _ _ digit int.2.digits)))
    int.2.first

decided : {E : Type 0} (word : List ℕ) (r : Result ℤ E) → IsNumeral 10 (without_leading_sign word)
    → ParsesSigned w64 10 word r → (IsTrue (is_ok r) → IsInRange word) × (IsInRange word → IsTrue (is_ok r))
decided word (Ok z) digits parses = (λ ok. parses.0.1, λ fits. refl)
decided word (Err e) digits parses = (λ ok. absurd (false≢true ok), λ fits. absurd (parses (digits, fits)))

pub range_test : {E : Type 0} (text : List ℕ) (at n : ℕ) (range : List ℕ) (r : Result ℤ E) (ok : Bool)
    → IsForm Int (take n (drop at text)) → range ≡ slice_range text at (at + n) → ParsesSigned w64 10 range r
    → ok ≡ is_ok r → (IsTrue ok → IsInRange (take n (drop at text))) × (IsInRange (take n (drop at text)) → IsTrue ok)
range_test text at n range r ok form same parses is =
    let word = take n (drop at text) in
    let cut : range ≡ word = same ∙ ap (λ k. take k (drop at text)) (let e : at + n - at ≡ n = omega arith in e) in
    let d = decided word r (numeral word form) (subst (λ t. ParsesSigned w64 10 t r) cut parses) in
    rw is d
