-- The nodes at which the edges of a walk begin.
use Rattle.std.proofs.Common.{◌≡◌, ◌<◌, ◌≤◌, ◌==◌, ℕ, zero, suc, List, [], ◌∷◌, length, refl, ap, subst, arith, false}
use Rattle.std.proofs.Common.{true, ne_eqb}
use Rattle.std.specs.List.{AllByRecursion, list_any, IsDistinct}
use Rattle.std.proofs.lemmas.Map.Steps.{length-le_from_distinct_below}
use mathlib.Core.Logic.{dite}
use native.Mathlib.Decide.{ℕ_discrete}
use Rattle.serial_pass.specs.declared.plan.PlanEdge.{PlanEdge}
use Rattle.serial_pass.specs.Plans.{HaveEndsBelow}
use Rattle.module_graph.specs.Walks.{Walk}
use Rattle.module_graph.proofs.Walking.{at_step}

pub distinct_cons : (x : ℕ) (xs : List ℕ) → AllByRecursion (λ y. (x == y) ≡ false) xs → IsDistinct ◌==◌ xs
    → IsDistinct ◌==◌ (x ∷ xs)
unfolding IsDistinct
distinct_cons x xs h k = (h, k)

pub distinct_nil : IsDistinct ◌==◌ []
unfolding IsDistinct
distinct_nil = tt

any_below : (count : ℕ) (xs : List ℕ) → AllByRecursion (λ y. y < count) xs → (q : ℕ) → list_any (λ y. q == y) xs ≡ true
    → q < count
any_below count [] h q e = cc
any_below count (x ∷ xs) h q e = dite (ℕ_discrete q x)
    (λ same. let a = h.0 in omega arith)
    (λ other. let f = ne_eqb q x other in any_below count xs h.1 q (rw f at e))

module _ (edges : List PlanEdge) where
  abbrev pub starts : (k n m : ℕ) → Walk edges k n m → List ℕ
  starts zero n m w = []
  starts (suc k) n m w = n ∷ starts k w.0 m w.2

  many : (k n m : ℕ) (w : Walk edges k n m) → length (starts k n m w) ≡ k
  many zero n m w = refl
  many (suc k) n m w = ap suc (many k w.0 m w.2)

  module _ (count : ℕ) (ends : HaveEndsBelow count edges) where
    below : (k n m : ℕ) (w : Walk edges k n m) → AllByRecursion (λ y. y < count) (starts k n m w)
    below zero n m w = tt
    below (suc k) n m w = ((at_step (λ i j. (i < count) × (j < count)) edges ends n w.0 w.1).0, below k w.0 m w.2)

    -- a walk that begins at no node twice has no more edges than there are nodes
    pub distinct_short : (k n m : ℕ) (w : Walk edges k n m) → IsDistinct ◌==◌ (starts k n m w) → k ≤ count
    distinct_short k n m w distinct =
        subst (λ j. j ≤ count) (many k n m w) (length-le_from_distinct_below (starts k n m w) count distinct
        (any_below count (starts k n m w) (below k n m w)))
