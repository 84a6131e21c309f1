-- Along a walk a rising numbering rises.
use Rattle.std.proofs.Common.{◌+◌, ◌<◌, ◌≤◌, ℕ, zero, suc, List, refl, ap, sym, subst, arith}
use Rattle.std.specs.List.{AllByRecursion}
use Rattle.std.proofs.lemmas.List.Elements.{All-from_recursion, All-contains}
use Rattle.serial_pass.specs.declared.plan.PlanEdge.{PlanEdge}
use Rattle.serial_pass.specs.Plans.{HasNoCycle}
use Rattle.module_graph.specs.Walks.{Leads, Walk, NoneReturns}

-- what holds of the ends of each edge holds of the ends of a step
pub at_step : (Q : ℕ → ℕ → Type 0) (edges : List PlanEdge) → AllByRecursion (λ (e : PlanEdge). Q e.from.0 e.to.0) edges
    → (n m : ℕ) → Leads edges n m → Q n m
at_step Q edges h n m l =
    let here : Q l.0.from.0 l.0.to.0 = All-contains (λ (e : PlanEdge). Q e.from.0 e.to.0) edges l.0
    (All-from_recursion (λ (e : PlanEdge). Q e.from.0 e.to.0) edges h) l.1 in
    subst (λ k. Q n k) l.3 (subst (λ k. Q k l.0.to.0) l.2 here)

module _ (edges : List PlanEdge) where
  walk_rises : (rank : ℕ → ℕ) → AllByRecursion (λ (e : PlanEdge). rank e.from.0 < rank e.to.0) edges → (k n m : ℕ)
      → Walk edges k n m → rank n + k ≤ rank m
  walk_rises rank h zero n m w = let e = ap rank w in omega arith
  walk_rises rank h (suc k) n m w =
      let a : rank n < rank w.0 = at_step (λ i j. rank i < rank j) edges h n w.0 w.1 in
      let b = walk_rises rank h k w.0 m w.2 in
      omega arith

  -- where a numbering rises along every edge no walk returns
  pub none_returns : HasNoCycle edges → NoneReturns edges
  none_returns free n r = let h = walk_rises free.rank free.rises (suc r.0) n n r.1 in absurd (omega arith)

  pub walk_push : (k x m n : ℕ) → Walk edges k x m → Leads edges m n → Walk edges (suc k) x n
  walk_push zero x m n w l = (n, subst (λ y. Leads edges y n) (sym w) l, refl)
  walk_push (suc k) x m n w l = (w.0, w.1, walk_push k w.0 m n w.2 l)
