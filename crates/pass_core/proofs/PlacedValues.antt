-- What some indices in turn stand for is what stands between them in a list.
use Rattle.std.proofs.Common.{◌≡◌, ◌+◌, ◌≤◌, ℕ, zero, suc, List, [], ◌∷◌, map, length, take, drop, refl, ap, arith, ◌∙◌}
use Rattle.std.proofs.Common.{Some}
use Rattle.std.specs.Prelude.{slice_get}
use Rattle.std.specs.List.{range_with_len}

module _ {X Y : Type 0} (f : ℕ → Y) (g : X → Y) where
  -- where an item of the list stands for its index, b before the list
  pub placed_values : (xs : List X) (b a k : ℕ) → a + k ≤ length xs
      → ((i : ℕ) (x : X) → slice_get xs i ≡ Some x → f (b + i) ≡ g x)
      → map f (range_with_len (b + a) k) ≡ map g (take k (drop a xs))
  placed_values xs b a zero le at = refl
  placed_values [] b a (suc k) le at = absurd (omega arith)
  placed_values (x ∷ xs) b zero (suc k) le at =
      let later : (i : ℕ) (y : X) → slice_get xs i ≡ Some y → f (suc b + i) ≡ g y =
      λ i y is. let s : suc b + i ≡ b + suc i = omega arith in ap f s ∙ at (suc i) y is in
      let next : (b + 0) + 1 ≡ suc b + 0 = omega arith in
      let first : f (b + 0) ≡ g x = at 0 x refl in
      let rest : map f (range_with_len ((b + 0) + 1) k) ≡ map g (take k (drop 0 xs)) =
      ap (λ j. map f (range_with_len j k)) next ∙ placed_values xs (suc b) 0 k (omega arith) later in
      λ i. first i ∷ rest i
  placed_values (x ∷ xs) b (suc a) (suc k) le at =
      let later : (i : ℕ) (y : X) → slice_get xs i ≡ Some y → f (suc b + i) ≡ g y =
      λ i y is. let s : suc b + i ≡ b + suc i = omega arith in ap f s ∙ at (suc i) y is in
      let next : b + suc a ≡ suc b + a = omega arith in
      ap (λ j. map f (range_with_len j (suc k))) next ∙ placed_values xs (suc b) a (suc k) (omega arith) later
