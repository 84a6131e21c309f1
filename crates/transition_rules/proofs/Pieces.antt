-- Where a piece of a list that is made of numbered items stands.
use Rattle.std.proofs.Common.{◌≡◌, ◌+◌, ◌<◌, ◌++◌, ℕ, zero, suc, List, [], ◌∷◌, length, get_or, take, ap, ◌∙◌, sym}
use Rattle.std.proofs.Common.{arith, append_assoc, add-zero}
use Rattle.graph_nodes.specs.Numbered.{by_number}

-- a list of pieces, taken apart at the piece of an item
pub by_number_at : {X A : Type 0} (f : ℕ → X → List A) (k : ℕ) (xs : List X) (i : ℕ) (d : X) → i < length xs
    → (rest : List A) × (by_number f k xs ≡ by_number f k (take i xs) ++ (f (k + i) (get_or xs i d) ++ rest))
by_number_at f k [] i d lt = absurd (omega arith)
by_number_at f k (x ∷ xs) zero d lt =
    (by_number f (k + 1) xs, ap (λ n. f n x ++ by_number f (k + 1) xs) (sym (add-zero k)))
by_number_at f k (x ∷ xs) (suc i) d lt =
    let r = by_number_at f (k + 1) xs i d (omega arith) in
    let e : (k + 1) + i ≡ k + suc i = omega arith in (
      r.0,
      ap (λ l. f k x ++ l) (r.1 ∙ ap (λ n. by_number f (k + 1) (take i xs) ++ (f n (get_or xs i d) ++ r.0)) e)
          ∙ sym (append_assoc (f k x) (by_number f (k + 1) (take i xs)) (f (k + suc i) (get_or xs i d) ++ r.0)),
    )
