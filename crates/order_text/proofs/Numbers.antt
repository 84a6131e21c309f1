-- The number of which a text is the decimal, by its first byte.
use Rattle.std.proofs.Common.{◌≡◌, ◌≢◌, ◌==◌, Bool, true, false, ◌<◌, ◌^◌, ℕ, List, [], ◌∷◌, length, get_or, slice_get}
use Rattle.std.proofs.Common.{arith, lit<, sym, ap, ◌∙◌, subst, Result, Ok, Err, Some, None}
use Rattle.std.specs.Bool.{then_some}
use Rattle.std.specs.Fmt.{decimal}
use Rattle.std.specs.Result.{result_ok}
use Rattle.std.specs.Str.Parse.{ParsesUnsigned}
use Rattle.std.proofs.lemmas.Bool.{eqb-true, eqb-false}
use Rattle.std.proofs.lemmas.Fmt.{decimal_digit, decimal_nonempty, decimal-digits_value, digits_decimal}
use Rattle.std.proofs.lemmas.Fmt.{digits_value-decimal}
use Rattle.std.proofs.lemmas.Str.Parse.{not_in_digits, parse_plain}
use Rattle.order_text.specs.Inside.{IsNumber}
use Rattle.order_text.proofs.Digits.{own, length_zero}

-- the byte that `first` gives
first_is : (bs : List ℕ) (b : ℕ) → Some b ≡ slice_get bs 0 → get_or bs 0 0 ≡ b
first_is [] b e = absurd cc
first_is (x ∷ xs) b e = cc

pub first_of : (text bytes : List ℕ) (b c : ℕ) → bytes ≡ text → Some b ≡ slice_get bytes 0 → b ≡ c → get_or text 0 0 ≡ c
first_of text bytes b c same e is = first_is text b (subst (λ bs. Some b ≡ slice_get bs 0) same e) ∙ is

pub empty_is_none : (bs : List ℕ) → length bs ≡ 0 → IsNumber bs None
empty_is_none bs is n lt e = absurd (omega (arith, decimal_nonempty n (omega arith), ap length e))

pub signed_is_none : (bs : List ℕ) → get_or bs 0 0 ≡ 43 → IsNumber bs None
signed_is_none bs is n lt e =
    not_in_digits own (decimal n) 43 (digits_decimal own n (omega arith)) (λ within. absurd (omega arith)) 0
    (decimal_nonempty n (omega arith)) (ap (λ xs. get_or xs 0 0) (sym e) ∙ is)

padded_is_none : (bs : List ℕ) → get_or bs 0 0 ≡ 48 → length bs ≢ 1 → IsNumber bs None
padded_is_none bs is many n lt e =
    absurd (many (ap length e ∙ length_zero n lt (ap (λ xs. get_or xs 0 0) (sym e) ∙ is)))

zero_is : (bs : List ℕ) → get_or bs 0 0 ≡ 48 → length bs ≡ 1 → IsNumber bs (Some 0)
zero_is [] is one = absurd (omega arith)
zero_is (b ∷ []) is one = (lit< tt, ap (λ (x : ℕ). x ∷ []) is ∙ sym (decimal_digit 0 (lit< tt)))
zero_is (b ∷ c ∷ bs) is one = absurd (omega arith)

-- a zero that begins a number is all of it
pub zero_alone : (bs : List ℕ) (r : Bool) → get_or bs 0 0 ≡ 48 → r ≡ (length bs == 1) → IsNumber bs (then_some r 0)
zero_alone bs true is alone = zero_is bs is (eqb-true (length bs) 1 (sym alone))
zero_alone bs false is alone = padded_is_none bs is (eqb-false (length bs) 1 (sym alone))

-- `parse` reads the decimal of a number and nothing else, where no sign and no zero stand first
pub parsed_is : {E : Type 0} (bs : List ℕ) (r : Result ℕ E) → get_or bs 0 0 ≢ 43 → get_or bs 0 0 ≢ 48
    → ParsesUnsigned 32 10 bs r → IsNumber bs (result_ok r)
parsed_is {E} bs (Ok n) plain start p =
    let h = parse_plain own {E = E} 32 bs (Ok n) p plain in (
      subst (λ m. m < 2 ^ 32) (sym h.1) h.0.2,
      sym (decimal-digits_value own bs h.0.0 h.0.1 (λ e. absurd (start e)) (omega (arith, h.0.2)))
          ∙ ap decimal (sym h.1),
    )
parsed_is {E} bs (Err e) plain start p = λ n lt is.
    parse_plain own {E = E} 32 bs (Err e) p plain
    (rw is (
      digits_decimal own n (omega arith),
      decimal_nonempty n (omega arith),
      rw (digits_value-decimal own n (omega arith)) lt,
    ))
