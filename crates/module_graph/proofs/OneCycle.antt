-- At most one cycle is reported, and it is a shortest walk from its start back to it.
use Rattle.std.proofs.Common.{◌≡◌, ◌≢◌, ◌<◌, ◌≤◌, ◌++◌, ◌⊎◌, inl, inr, ⊎_elim, ℕ, zero, suc, List, [], ◌∷◌, refl, ap}
use Rattle.std.proofs.Common.{◌∙◌, sym, subst, arith, Result, Ok, Err}
use Rattle.std.specs.List.{AllByRecursion}
use mathlib.Core.Logic.{dite}
use native.Mathlib.Decide.{ℕ_discrete}
use Rattle.bp_faults.specs.declared.fault.Fault.{Fault}
use Rattle.serial_pass.specs.declared.plan.PlanEdge.{PlanEdge}
use Rattle.graph_nodes.specs.declared.graph.Edge.{Edge}
use Rattle.graph_nodes.specs.declared.graph.Node.{Node}
use Rattle.graph_nodes.specs.Nodes.{edges_at}
use Rattle.module_graph.specs.Graphs.{edges_of}
use Rattle.module_graph.specs.Walks.{Walk}
use Rattle.module_graph.specs.Cycles.{IsDistance, IsStart, IsNearest, IsWay, IsCycle, IsReported, CycleMeans}
use Rattle.module_graph.specs.Cycles.{cycle_fault}
use Rattle.module_graph.proofs.Outward.{all_middle}

module _ (edges : List PlanEdge) (s : ℕ) where
  -- of a split list one part is the other's
  one_nearest : (e e' : Edge) (d d' : ℕ) (before after before' after' : List Edge)
      → before ++ e ∷ after ≡ before' ++ e' ∷ after'
      → IsDistance edges s e.to.0 d → AllByRecursion (λ (x : Edge). (k : ℕ) → Walk edges k x.to.0 s → d < k) before
      → AllByRecursion (λ (x : Edge). (k : ℕ) → Walk edges k x.to.0 s → d ≤ k) after
      → IsDistance edges s e'.to.0 d' → AllByRecursion (λ (x : Edge). (k : ℕ) → Walk edges k x.to.0 s → d' < k) before'
      → AllByRecursion (λ (x : Edge). (k : ℕ) → Walk edges k x.to.0 s → d' ≤ k) after' → e ≡ e'
  one_nearest e e' d d' [] after [] after' same at earlier later at' earlier' later' = cc
  one_nearest e e' d d' [] after (y ∷ ys) after' same at earlier later at' earlier' later' =
      let first : e ≡ y = cc in
      let rest : after ≡ ys ++ e' ∷ after' = cc in
      let a = earlier'.0 d (subst (λ (x : Edge). Walk edges d x.to.0 s) first at.walk) in
      let b = all_middle (λ (x : Edge). (k : ℕ) → Walk edges k x.to.0 s → d ≤ k) ys e' after'
      (subst (λ (l : List Edge). AllByRecursion (λ (x : Edge). (k : ℕ) → Walk edges k x.to.0 s → d ≤ k) l) rest later)
      d' at'.walk in
      absurd (omega arith)
  one_nearest e e' d d' (x ∷ xs) after [] after' same at earlier later at' earlier' later' =
      let first : x ≡ e' = cc in
      let rest : xs ++ e ∷ after ≡ after' = cc in
      let a = earlier.0 d' (subst (λ (y : Edge). Walk edges d' y.to.0 s) (sym first) at'.walk) in
      let b = all_middle (λ (x : Edge). (k : ℕ) → Walk edges k x.to.0 s → d' ≤ k) xs e after (subst (λ (l : List Edge).
      AllByRecursion (λ (x : Edge). (k : ℕ) → Walk edges k x.to.0 s → d' ≤ k) l) (sym rest) later') d at.walk in
      absurd (omega arith)
  one_nearest e e' d d' (x ∷ xs) after (y ∷ ys) after' same at earlier later at' earlier' later' =
      let rest : xs ++ e ∷ after ≡ ys ++ e' ∷ after' = cc in
      one_nearest e e' d d' xs after ys after' rest at earlier.1 later at' earlier'.1 later'

  nearest_unique : (es : List Edge) (e e' : Edge) → IsNearest edges s es e → IsNearest edges s es e' → e ≡ e'
  nearest_unique es e e' n n' =
      one_nearest e e' n.distance n'.distance n.before n.after n'.before n'.after
      (sym n.parts ∙ n'.parts) n.away n.earlier n.later n'.away n'.earlier n'.later

start_unique : (edges : List PlanEdge) (s s' : ℕ) → IsStart edges s → IsStart edges s' → s ≡ s'
start_unique edges s s' a b = dite (ℕ_discrete s s') (λ same. same) (λ other. absurd (either (less s s' other)))
  where
    less : (m n : ℕ) → m ≢ n → (m < n) ⊎ (n < m)
    less zero zero ne = absurd (ne refl)
    less zero (suc n) ne = inl (omega arith)
    less (suc m) zero ne = inr (omega arith)
    less (suc m) (suc n) ne = ⊎_elim (λ lt. inl (omega arith)) (λ lt. inr (omega arith)) (less m n (λ e. ne (ap suc e)))

    either : (s < s') ⊎ (s' < s) → ⊥
    either h = ⊎_elim (λ lt. b.least s lt a.returns) (λ lt. a.least s' lt b.returns) h

module _ {P : Type 0} (nodes : List (Node P)) where
  way_unique : (s n : ℕ) (es es' : List Edge) → IsWay nodes s n es s → IsWay nodes s n es' s → es ≡ es'
  way_unique s n [] [] w w' = refl
  way_unique s n [] (e' ∷ es') w w' = absurd (w'.0 w)
  way_unique s n (e ∷ es) [] w w' = absurd (w.0 w')
  way_unique s n (e ∷ es) (e' ∷ es') w w' =
      let same = nearest_unique (edges_of nodes) s (edges_at nodes n) e e' w.1 w'.1 in
      λ i. same i ∷ way_unique s e.to.0 es es' w.2 (subst (λ (x : Edge). IsWay nodes s x.to.0 es' s) (sym same) w'.2) i

  pub cycle_unique : (s s' : ℕ) (first first' : Edge) (rest rest' : List Edge) → IsCycle nodes s first rest
      → IsCycle nodes s' first' rest' → (s ≡ s') × (first ≡ first') × (rest ≡ rest')
  cycle_unique s s' first first' rest rest' c c' =
      let at = start_unique (edges_of nodes) s s' c.start c'.start in
      let begins' = subst (λ t. IsNearest (edges_of nodes) t (edges_at nodes t) first') (sym at) c'.begins in
      let goes' = subst (λ t. IsWay nodes t first'.to.0 rest' t) (sym at) c'.goes in
      let same = nearest_unique (edges_of nodes) s (edges_at nodes s) first first' c.begins begins' in (
        at,
        same,
        way_unique s first.to.0 rest rest' c.goes (subst (λ (x : Edge). IsWay nodes s x.to.0 rest' s) (sym same) goes'),
      )

  pub reported_unique : (names : List (List ℕ)) (fault fault' : Fault) → IsReported nodes names fault
      → IsReported nodes names fault' → fault ≡ fault'
  reported_unique names fault fault' r r' =
      let same = cycle_unique r.0 r'.0 r.1 r'.1 r.2 r'.2 r.3 r'.3 in
      r.4 ∙ (λ i. cycle_fault names (same.0 i) (same.1 i) (same.2 i)) ∙ sym r'.4

  pub means_unique : (names : List (List ℕ)) (r r' : Result Unit Fault) → CycleMeans nodes names r
      → CycleMeans nodes names r' → r ≡ r'
  means_unique names (Ok a) (Ok b) m m' = refl
  means_unique names (Ok a) (Err f) m m' = absurd (m m'.0 m'.3.start.returns)
  means_unique names (Err f) (Ok b) m m' = absurd (m' m.0 m.3.start.returns)
  means_unique names (Err f) (Err f') m m' = ap Err (reported_unique names f f' m m')
