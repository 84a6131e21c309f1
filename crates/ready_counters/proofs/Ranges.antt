-- Lists of a function over the numbers from one on.
use Rattle.std.proofs.Common.{◌≡◌, ◌≢◌, ◌<◌, ◌≤◌, ◌+◌, ℕ, zero, suc, ◌∷◌, map, set, refl, ap, arith, ◌∙◌, Some}
use Rattle.std.specs.Prelude.{slice_get, slice_index}
use Rattle.std.specs.List.{range_with_len}

module _ {X : Type 0} where
  -- two functions that agree there
  pub same_over : (f g : ℕ → X) (b m : ℕ) → ((k : ℕ) → b ≤ k → k < b + m → f k ≡ g k)
      → map f (range_with_len b m) ≡ map g (range_with_len b m)
  same_over f g b zero h = refl
  same_over f g b (suc m) h =
      λ i. h b (omega arith) (omega arith) i ∷ same_over f g (b + 1) m (λ k l u. h k (omega arith) (omega arith)) i

  -- two functions that agree but at one number
  pub set_over : (f g : ℕ → X) (b m j n : ℕ) (x : X) → n ≡ b + j → j < m → f n ≡ x
      → ((k : ℕ) → b ≤ k → k < b + m → k ≢ n → f k ≡ g k)
      → map f (range_with_len b m) ≡ set (map g (range_with_len b m)) j x
  set_over f g b zero j n x is l here h = absurd (omega arith)
  set_over f g b (suc m) zero n x is l here h =
      let at : f b ≡ x = ap f (omega arith) ∙ here in
      λ i. at i ∷ same_over f g (b + 1) m (λ k lo up. h k (omega arith) (omega arith) (λ same. absurd (omega arith))) i
  set_over f g b (suc m) (suc j) n x is l here h =
      λ i. h b (omega arith) (omega arith) (λ same. absurd (omega arith)) i ∷ set_over f g (b + 1) m j n x
      (omega arith) (omega arith) here (λ k lo up ne. h k (omega arith) (omega arith) ne) i

  -- what stands at an index
  pub get_over : (f : ℕ → X) (b m j n : ℕ) → n ≡ b + j → j < m → slice_get (map f (range_with_len b m)) j ≡ Some (f n)
  get_over f b zero j n is l = absurd (omega arith)
  get_over f b (suc m) zero n is l = ap (λ k. Some (f k)) (omega arith)
  get_over f b (suc m) (suc j) n is l = get_over f (b + 1) m j n (omega arith) (omega arith)

pub index_over : (f : ℕ → ℕ) (b m j n : ℕ) → n ≡ b + j → j < m → slice_index (map f (range_with_len b m)) j ≡ f n
index_over f b zero j n is l = absurd (omega arith)
index_over f b (suc m) zero n is l = ap f (omega arith)
index_over f b (suc m) (suc j) n is l = index_over f (b + 1) m j n (omega arith) (omega arith)
