-- One numbered item more.
use Rattle.std.proofs.Common.{◌≡◌, ◌+◌, ◌<◌, ◌++◌, ℕ, suc, List, [], ◌∷◌, length, get_or, take, ap, ◌∙◌, sym}
use Rattle.std.proofs.Common.{arith, append-nil, append_assoc, add-zero, zero-add}
use Rattle.std.proofs.lemmas.List.{take_more, length-take-le}
use Rattle.graph_nodes.specs.Numbered.{by_number}

module _ {X A : Type 0} where
  by_number_more : (f : ℕ → X → List A) (k : ℕ) (xs : List X) (x : X)
      → by_number f k (xs ++ x ∷ []) ≡ by_number f k xs ++ f (k + length xs) x
  by_number_more f k [] x = append-nil (f k x) ∙ ap (λ n. f n x) (sym (add-zero k))
  by_number_more f k (y ∷ xs) x =
      let e : (k + 1) + length xs ≡ k + suc (length xs) = omega arith in
      ap (λ r. f k y ++ r) (by_number_more f (k + 1) xs x ∙ ap (λ n. by_number f (k + 1) xs ++ f n x) e)
      ∙ sym (append_assoc (f k y) (by_number f (k + 1) xs) (f (k + suc (length xs)) x))

  -- one item behind the others
  pub by_number_last : (f : ℕ → X → List A) (xs : List X) (x : X)
      → by_number f 0 (xs ++ x ∷ []) ≡ by_number f 0 xs ++ f (length xs) x
  by_number_last f xs x = by_number_more f 0 xs x ∙ ap (λ n. by_number f 0 xs ++ f n x) (zero-add (length xs))

  -- one more item
  pub by_number_step : (f : ℕ → X → List A) (xs : List X) (i : ℕ) (d : X) → i < length xs
      → by_number f 0 (take (i + 1) xs) ≡ by_number f 0 (take i xs) ++ f i (get_or xs i d)
  by_number_step f xs i d lt =
      ap (by_number f 0) (take_more xs i d lt) ∙ by_number_more f 0 (take i xs) (get_or xs i d)
      ∙ ap (λ n. by_number f 0 (take i xs) ++ f n (get_or xs i d))
      (zero-add (length (take i xs)) ∙ length-take-le i xs (omega arith))
