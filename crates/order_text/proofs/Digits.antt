-- The digits of decimal numbers.
use Rattle.std.proofs.Common.{◌≡◌, ◌≢◌, ◌<◌, ◌≤◌, ◌+◌, ◌%◌, ℕ, zero, suc, List, length, get_or, arith, lit<, ap}
use Rattle.std.specs.Fmt.{decimal}
use Rattle.std.specs.List.{AllByRecursion}
use Rattle.std.specs.Str.Parse.{AllDigits, digits_value}
use Rattle.std.proofs.lemmas.Fmt.{decimal_by_steps, decimal_digit, first_decimal}
use Rattle.std.proofs.lemmas.List.Elements.{All-from_recursion}
use Rattle.std.proofs.lemmas.Str.Parse.{IsNumeralModel, numerals_by_value, tells_digits}
use Rattle.bp_faults.proofs.Lists.{all_pushed}

-- std's own words for texts of digits
pub own : IsNumeralModel (AllDigits 10) (digits_value 10)
own = numerals_by_value (AllDigits 10) tells_digits

pub decimal_by_digits : (n : ℕ) → n < 4294967296 → AllByRecursion (λ b. 48 ≤ b) (decimal n)
decimal_by_digits n lt =
    decimal_by_steps (λ n ds. AllByRecursion (λ b. 48 ≤ b) ds) (λ n few. (omega arith, tt))
    (λ n ds many h. all_pushed (λ b. 48 ≤ b) ds (48 + n % 10) h (omega arith)) n (omega arith)

-- a number that begins with a zero is zero
pub length_zero : (n : ℕ) → n < 4294967296 → get_or (decimal n) 0 0 ≡ 48 → length (decimal n) ≡ 1
length_zero zero lt is = ap length (decimal_digit 0 (lit< tt))
length_zero (suc n) lt is = absurd (omega (arith, first_decimal (suc n) (omega arith) (omega arith)))

-- no byte of digits is below them
pub lacks : (bs : List ℕ) (c : ℕ) → c < 48 → AllByRecursion (λ b. 48 ≤ b) bs → (i : ℕ) → i < length bs
    → get_or bs i 0 ≢ c
lacks bs c low h i lt e = let a = All-from_recursion (λ b. 48 ≤ b) bs h i 0 lt in absurd (omega arith)
