-- What is read of the first bytes of an input, one more than are wanted.
use Rattle.std.proofs.Common.{◌≡◌, ◌<◌, ◌≤◌, ◌+◌, ℕ, zero, suc, List, [], ◌∷◌, ◌++◌, length, take, Option, Some, None}
use Rattle.std.proofs.Common.{refl, arith, ap, subst, ◌∙◌}
use Rattle.std.specs.Prelude.{IfSome, option_map}

taken_whole : (n : ℕ) (xs : List ℕ) → length (take n xs) < n → take n xs ≡ xs
taken_whole zero xs few = absurd (omega (arith, few))
taken_whole (suc n) [] few = refl
taken_whole (suc n) (x ∷ xs) few = ap (λ ys. x ∷ ys) (taken_whole n xs (omega (arith, few)))

all_there : (told : Option (List ℕ)) (limit n : ℕ) (before bytes : List ℕ) → n ≡ limit + 1 → before ≡ []
    → length bytes ≤ limit → IfSome (option_map (take n) told) (λ xs. bytes ≡ before ++ xs)
    → IfSome told (λ xs. bytes ≡ xs)
all_there None limit n before bytes one none few h = tt
all_there (Some xs) limit n before bytes one none few h =
    let is = h ∙ ap (λ ys. ys ++ take n xs) none in
    is ∙ taken_whole n xs (omega (arith, one, few, ap length is))

-- no more than are wanted are all
pub all_taken : (told now : Option (List ℕ)) (limit n : ℕ) (before bytes : List ℕ) → now ≡ told → n ≡ limit + 1
    → before ≡ [] → length bytes ≤ limit → IfSome (option_map (take n) now) (λ xs. bytes ≡ before ++ xs)
    → IfSome told (λ xs. bytes ≡ xs)
all_taken told now limit n before bytes same one none few h =
    subst (λ o. IfSome o (λ xs. bytes ≡ xs)) same (all_there now limit n before bytes one none few h)
