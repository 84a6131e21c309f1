-- Bytes that tests tell apart.
use Rattle.std.proofs.Common.{◌≡◌, ℕ, Bool, true, false, eqb, arith, ap, sym, ◌∙◌, refl}
use Rattle.std.proofs.lemmas.Bool.Decides.{nat_tests}

apart : (p : ℕ → Bool) (b n : ℕ) (e : Bool) → eqb b n ≡ e → p b ≡ true → p n ≡ false → e ≡ false
apart p b n true e passes fails =
    let same : b ≡ n = grind (arith, nat_tests) in
    sym passes ∙ ap p same ∙ fails
apart p b n false e passes fails = refl

-- a byte that passes a test is no byte that fails it
pub apart_by : (p : ℕ → Bool) (b n : ℕ) → p b ≡ true → p n ≡ false → eqb b n ≡ false
apart_by p b n passes fails = apart p b n (eqb b n) refl passes fails
