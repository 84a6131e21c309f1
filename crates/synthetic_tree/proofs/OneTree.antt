-- Two lists of the same numbers that ascend by one order are one list, so a seed has one tree.
use Rattle.std.proofs.Common.{◌≡◌, ◌∙◌, ◌<◌, ◌⊎◌, inl, inr, ⊎_elim, ℕ, zero, suc, List, [], ◌∷◌, length, get_or, map}
use Rattle.std.proofs.Common.{ap, arith, refl, subst, sym}
use Rattle.std.specs.List.{All, AllByRecursion, range_with_len}
use Rattle.std.specs.List.Sorted.{IsPermutation, IsStrictlySortedBy}
use Rattle.std.specs.Ordering.{ordering_reverse}
use Rattle.std.specs.declared.cmp.Ordering.{Ordering}
use Rattle.std.specs.declared.cmp.Ordering.TheVariants.{Less, Equal, Greater}
use Rattle.std.proofs.lemmas.Cmp.{nat_list_cmp_total}
use Rattle.std.proofs.lemmas.List.Sorted.{All-permutation, IsPermutation-sym}
use Rattle.synthetic_tree.specs.Blocks.{AreTree, TreeFile, block_cmp, block_count, block_directory, block_file}

abbrev Has : {X : Type 0} → List X → X → Type 0
Has [] q = ⊥
Has (x ∷ xs) q = (x ≡ q) ⊎ Has xs q

has_there : {X : Type 0} (xs : List X) (k : ℕ) (d : X) → k < length xs → Has xs (get_or xs k d)
has_there [] k d below = absurd (omega arith)
has_there (x ∷ xs) zero d below = inl refl
has_there (x ∷ xs) (suc k) d below = inr (has_there xs k d (omega arith))

each : {X : Type 0} (P : X → Type 0) (xs : List X) → All P xs → (q : X) → Has xs q → P q
each P [] all q has = absurd has
each P (x ∷ xs) all q (inl is) = subst P is (all 0 x (omega arith))
each P (x ∷ xs) all q (inr has) = each P xs (λ k d below. all (suc k) d (omega arith)) q has

-- A permutation has no new elements.
kept : {X : Type 0} (xs ys : List X) → IsPermutation xs ys → (q : X) → Has ys q → Has xs q
kept xs ys moved = each (Has xs) ys (All-permutation (Has xs) xs ys moved (λ k d below. has_there xs k d below))

module _ {X : Type 0} (R : X → X → Ordering) (apart : (x : X) → R x x ≡ Less → ⊥)
    (trans : (x y z : X) → R x y ≡ Less → R y z ≡ Less → R x z ≡ Less) where
  behind : (x : X) (xs : List X) (q : X) → AllByRecursion (λ y. R x y ≡ Less) xs → Has xs q → R x q ≡ Less
  behind x [] q all has = absurd has
  behind x (y ∷ ys) q all (inl is) = subst (λ z. R x z ≡ Less) is all.0
  behind x (y ∷ ys) q all (inr has) = behind x ys q all.1 has

  others : (x y : X) (xs ys : List X) → x ≡ y → AllByRecursion (λ z. R x z ≡ Less) xs
      → ((q : X) → Has (x ∷ xs) q → Has (y ∷ ys) q) → (q : X) → Has xs q → Has ys q
  others x y xs ys same all into q has =
      ⊎_elim (λ is. absurd (apart x (subst (λ z. R x z ≡ Less) (sym is ∙ sym same) (behind x xs q all has))))
      (λ more. more) (into q (inr has))

  same_ascending : (xs ys : List X) → IsStrictlySortedBy R xs → IsStrictlySortedBy R ys
      → ((q : X) → Has xs q → Has ys q) → ((q : X) → Has ys q → Has xs q) → xs ≡ ys
  unfolding IsStrictlySortedBy
  same_ascending [] [] first second into back = refl
  same_ascending [] (y ∷ ys) first second into back = absurd (back y (inl refl))
  same_ascending (x ∷ xs) [] first second into back = absurd (into x (inl refl))
  same_ascending (x ∷ xs) (y ∷ ys) first second into back =
      let head : x ≡ y =
      ⊎_elim (λ is. sym is)
      (λ has. ⊎_elim (λ is. is)
      (λ other. absurd (apart x (trans x y x (behind x xs y first.0 other) (behind y ys x second.0 has))))
      (back y (inl refl)))
      (into x (inl refl)) in
      let tail : xs ≡ ys = same_ascending xs ys first.1 second.1 (others x y xs ys head first.0 into)
      (others y x ys xs (sym head) second.0 back) in
      cc

not_itself : (o : Ordering) → o ≡ ordering_reverse o → o ≡ Less → ⊥
not_itself Less e is = cc
not_itself Equal e is = cc
not_itself Greater e is = cc

one_order : (n : ℕ) (first second : List ℕ) → IsPermutation (range_with_len 0 n) first
    → IsPermutation (range_with_len 0 n) second
    → IsStrictlySortedBy block_cmp first → IsStrictlySortedBy block_cmp second → first ≡ second
one_order n first second moved moved_too sorted sorted_too =
    let all = range_with_len 0 n in
    same_ascending block_cmp
    (λ b. not_itself (block_cmp b b) (nat_list_cmp_total.antisymm (block_directory b) (block_directory b)))
    (λ a b c. nat_list_cmp_total.trans (block_directory a) (block_directory b) (block_directory c))
    first second sorted sorted_too
    (λ q has. kept second all (IsPermutation-sym all second moved_too) q (kept all first moved q has))
    (λ q has. kept first all (IsPermutation-sym all first moved) q (kept all second moved_too q has))

pub one_tree : (seed modules : ℕ) (first second : List TreeFile) → AreTree seed modules first
    → AreTree seed modules second
    → first ≡ second
one_tree seed modules first second one other =
    one.3 ∙ ap (λ (blocks : List ℕ). map (block_file seed modules) blocks)
    (one_order (block_count modules) one.0 other.0 one.1 other.1 one.2 other.2) ∙ sym other.3
