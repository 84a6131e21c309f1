-- What `parse` says of a word of digits alone.
use Rattle.std.proofs.Common.{◌≡◌, ℕ, ◌<◌, ◌^◌, List, [], ◌∷◌, length, None, Result, Err, sym, arith, rules, true}
use Rattle.std.specs.Prelude.{IsTrue}
use Rattle.std.specs.List.{list_all}
use Rattle.std.specs.Char.{is_ascii_digit}
use Rattle.std.specs.Str.Parse.{ParsesUnsigned, digits_value}
use Rattle.std.proofs.lemmas.Bool.Decides.{nat_tests}
use Rattle.std.proofs.lemmas.Bool.{false≢true}
use Rattle.std.proofs.lemmas.Str.Parse.{IsNumeralModel, numerals_by_value, parse_digits}
use Rattle.property_values.specs.Fits.{is_number, in_levels}

own : IsNumeralModel (λ ds. list_all is_ascii_digit ds ≡ true) (digits_value 10)
own = numerals_by_value _ (search rules)

number_parts : (word : List ℕ) → IsTrue (is_number word) → (0 < length word) × (list_all is_ascii_digit word ≡ true)
number_parts [] is = absurd (false≢true is)
number_parts (c ∷ word) is = (omega arith, is)

beyond : (n : ℕ) → (n < 2 ^ 32 → ⊥) → in_levels n ≡ None
beyond n large = let past : 9999 < n = omega (arith, large) in grind (arith, nat_tests)

-- a number that `parse` refuses is past every level
pub unparsed : {E : Type 0} (word : List ℕ) (r : Result ℕ E) (e : E) → IsTrue (is_number word)
    → ParsesUnsigned 32 10 word r → r ≡ Err e → None ≡ in_levels (digits_value 10 word)
unparsed word r e is parses failed =
    let parts = number_parts word is in
    let refused = parse_digits own 32 word r parses parts.1 in
    sym (beyond (digits_value 10 word) (λ fits. (rw failed at refused) (parts.0, fits)))
