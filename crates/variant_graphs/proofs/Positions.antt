-- The first index of an item.
use Rattle.std.proofs.Common.{◌≡◌, ◌<◌, ◌≤◌, ℕ, Bool, true, false, cond, List, length, get_or, ap, ◌∙◌, sym, refl}
use Rattle.std.proofs.Common.{arith, Option, Some, None, nat_lt}
use Rattle.std.specs.Prelude.{◌≢◌}
use Rattle.std.specs.List.{AllPairs}
use Rattle.graph_nodes.specs.declared.variation.Variation.{Variation}
use Rattle.graph_nodes.specs.declared.variation.Variation.TheVariants.{Empty}
use Rattle.graph_nodes.specs.Laws.{SameMeansEqual}
use Rattle.graph_nodes.specs.Same.{same}
use Rattle.std.specs.List.{position, position_or_len}
use Rattle.std.proofs.lemmas.Bool.Decides.{nat_tests}
use Rattle.std.proofs.lemmas.List.Sums.{position_or_len_is}

module _ {X : Type 0} (p : X → Bool) (xs : List X) where
  pub position_found : (i : ℕ) (d : X) → i < length xs → ((k : ℕ) → k < i → p (get_or xs k d) ≡ false)
      → p (get_or xs i d) ≡ true → Some i ≡ position p xs
  position_found i d lt before here =
      let is : position_or_len p xs ≡ i = position_or_len_is p xs i d (omega arith) before (λ _. here) in
      let t : nat_lt i (length xs) ≡ true = grind (arith, nat_tests) in
      ap (λ b. cond b (Some i) None) (sym t) ∙ ap (λ n. cond (nat_lt n (length xs)) (Some n) None) (sym is)

  pub position_none : (i : ℕ) (d : X) → length xs ≤ i → ((k : ℕ) → k < i → p (get_or xs k d) ≡ false)
      → None ≡ position p xs
  position_none i d le before =
      let is : position_or_len p xs ≡ length xs = position_or_len_is p xs (length xs) d (omega arith)
      (λ k lt. before k (omega arith)) (λ lt. absurd (omega arith)) in
      let t : nat_lt (length xs) (length xs) ≡ false = grind (arith, nat_tests) in
      ap (λ b. cond {A = Option ℕ} b (Some (length xs)) None) (sym t)
      ∙ ap (λ n. cond (nat_lt n (length xs)) (Some n) None) (sym is)

not_true : (b : Bool) → (b ≡ true → ⊥) → b ≡ false
not_true true h = absurd (h refl)
not_true false h = refl

-- where variations differ, an index of one is its first
pub position_only : SameMeansEqual → (v : Variation) (list : List Variation) (guess : ℕ)
    → AllPairs (λ (x y : Variation). x ≢ y) list → guess < length list → same v (get_or list guess Empty) ≡ true
    → Some guess ≡ position (same v) list
position_only means v list guess differ lt here =
    position_found (same v) list guess Empty lt
    (λ k before. not_true (same v (get_or list k Empty))
    (λ there. differ k guess Empty before lt
    (sym ((means v (get_or list k Empty)).0 there) ∙ (means v (get_or list guess Empty)).0 here)))
    here
