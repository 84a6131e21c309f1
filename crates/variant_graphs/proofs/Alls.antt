-- What holds of each item of a list that is made of numbered items, or of those of which something is made.
use Rattle.std.proofs.Common.{◌≡◌, ◌+◌, ◌<◌, ◌++◌, ℕ, zero, suc, List, [], ◌∷◌, length, get_or, take, refl}
use Rattle.std.proofs.Common.{ap, ◌∙◌, sym, arith, append-nil, append_assoc, add-zero, zero-add, Option, Some, None}
use Rattle.std.specs.List.{AllByRecursion, filter_map, cons_option}
use Rattle.std.proofs.lemmas.List.{take_more, length-take-le}
use Rattle.bp_faults.proofs.Lists.{all_append}
use Rattle.graph_nodes.specs.declared.graph.Node.{Node}
use Rattle.graph_nodes.specs.Nodes.{edges_at}
use Rattle.graph_nodes.specs.Numbered.{by_number}

pub all_by_number : {X A : Type 0} (P : X → Type 0) (Q : A → Type 0) (bound : ℕ) (f : ℕ → X → List A)
    → ((n : ℕ) (x : X) → n < bound → P x → AllByRecursion Q (f n x))
    → (k : ℕ) (xs : List X) → k + length xs ≡ bound → AllByRecursion P xs → AllByRecursion Q (by_number f k xs)
all_by_number P Q bound f imp k [] e h = tt
all_by_number {X} P Q bound f imp k (x ∷ xs) e h =
    all_append Q (f k x) (by_number f (k + 1) xs) (imp k x (below k (length xs) bound e) h.0)
    (all_by_number P Q bound f imp (k + 1) xs (next k (length xs) bound e) h.1)
  where
    below : (k n bound : ℕ) → k + suc n ≡ bound → k < bound
    below k n bound e = omega arith

    next : (k n bound : ℕ) → k + suc n ≡ bound → (k + 1) + n ≡ bound
    next k n bound e = omega arith

module _ {A B : Type 0} where
  -- where a function makes something of an element, or nothing
  pub all_kept : (P : A → Type 0) (Q : B → Type 0) (f : A → Option B)
      → ((x : A) (y : B) → P x → f x ≡ Some y → Q y) → (xs : List A) → AllByRecursion P xs
      → AllByRecursion Q (filter_map f xs)
  all_kept P Q f imp [] h = tt
  all_kept P Q f imp (x ∷ xs) h = one (f x) (λ y. imp x y h.0) (all_kept P Q f imp xs h.1)
    where
      one : (o : Option B) → ((y : B) → o ≡ Some y → Q y) → AllByRecursion Q (filter_map f xs)
          → AllByRecursion Q (cons_option o (filter_map f xs))
      one None g rest = rest
      one (Some y) g rest = (g y (λ i. Some y), rest)

module _ {X A : Type 0} where
  by_number_more : (f : ℕ → X → List A) (k : ℕ) (xs : List X) (x : X)
      → by_number f k (xs ++ x ∷ []) ≡ by_number f k xs ++ f (k + length xs) x
  by_number_more f k [] x = append-nil (f k x) ∙ ap (λ n. f n x) (sym (add-zero k))
  by_number_more f k (y ∷ xs) x =
      let e : (k + 1) + length xs ≡ k + suc (length xs) = omega arith in
      ap (λ r. f k y ++ r) (by_number_more f (k + 1) xs x ∙ ap (λ n. by_number f (k + 1) xs ++ f n x) e)
      ∙ sym (append_assoc (f k y) (by_number f (k + 1) xs) (f (k + suc (length xs)) x))

  -- the piece of one item more
  pub by_number_step : (f : ℕ → X → List A) (xs : List X) (i : ℕ) (d : X) → i < length xs
      → by_number f 0 (take (i + 1) xs) ≡ by_number f 0 (take i xs) ++ f i (get_or xs i d)
  by_number_step f xs i d lt =
      ap (by_number f 0) (take_more xs i d lt) ∙ by_number_more f 0 (take i xs) (get_or xs i d)
      ∙ ap (λ n. by_number f 0 (take i xs) ++ f n (get_or xs i d))
      (zero-add (length (take i xs)) ∙ length-take-le i xs (omega arith))

pub edges_at_is : {P : Type 0} (nodes : List (Node P)) (n : ℕ) (x : Node P) → n < length nodes
    → edges_at nodes n ≡ (get_or nodes n x).edges
edges_at_is [] n x lt = absurd (omega arith)
edges_at_is (y ∷ ys) zero x lt = refl
edges_at_is (y ∷ ys) (suc n) x lt = edges_at_is ys n x (omega arith)
