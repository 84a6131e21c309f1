-- Of which old node a new node is a variant.
use Rattle.std.proofs.Common.{◌≡◌, ◌+◌, ◌-◌, ◌<◌, ℕ, zero, suc, true, false, cond, List, [], ◌∷◌, length, take, get_or}
use Rattle.std.proofs.Common.{ap, ◌∙◌, sym, arith, add-zero, nat_lt}
use Rattle.std.specs.List.{sum_by}
use Rattle.std.proofs.lemmas.Bool.Decides.{nat_tests}
use Rattle.std.proofs.lemmas.List.Sums.{sum_by-cons}

module _ {B : Type 0} where
  -- the number of the list that has the item with number i, the first list having the number k
  abbrev pub owner_from : ℕ → List (List B) → ℕ → ℕ
  owner_from k [] i = k
  owner_from k (l ∷ ls) i = cond (nat_lt i (length l)) k (owner_from (k + 1) ls (i - length l))

  pub owner_is : (k : ℕ) (ls : List (List B)) (n index : ℕ) → n < length ls → index < length (get_or ls n [])
      → owner_from k ls (sum_by length (take n ls) + index) ≡ k + n
  owner_is k [] n index lt within = absurd (omega arith)
  owner_is k (l ∷ ls) zero index lt within =
      let t : nat_lt (0 + index) (length l) ≡ true = grind (arith, nat_tests) in
      ap (λ b. cond b k (owner_from (k + 1) ls ((0 + index) - length l))) t ∙ sym (add-zero k)
  owner_is k (l ∷ ls) (suc n) index lt within =
      let sum = sum_by-cons length l (take n ls) in
      let i = sum_by length (l ∷ take n ls) + index in
      let t : nat_lt (sum_by length (l ∷ take n ls) + index) (length l) ≡ false = grind (arith, nat_tests) in
      let left : (sum_by length (l ∷ take n ls) + index) - length l ≡ sum_by length (take n ls) + index = omega arith in
      let e : (k + 1) + n ≡ k + suc n = omega arith in
      ap (λ b. cond b k (owner_from (k + 1) ls (i - length l))) t
      ∙ ap (owner_from (k + 1) ls) left
      ∙ owner_is (k + 1) ls n index (omega arith) within
      ∙ e
