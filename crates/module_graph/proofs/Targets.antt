-- From the bottom up the predecessors of a node are the targets of its edges.
use Rattle.std.proofs.Common.{◌≡◌, ◌≢◌, ◌+◌, ◌<◌, ◌++◌, ℕ, zero, suc, List, [], ◌∷◌, map, refl, ap, ◌∙◌, sym, arith}
use Rattle.std.proofs.Common.{append-nil, eq-eqb, ne_eqb, add-zero, zero-add}
use Rattle.std.proofs.lemmas.List.{map-append}
use Rattle.std.proofs.lemmas.List.Elements.{filter-append}
use Rattle.serial_pass.specs.declared.plan.PlanEdge.{PlanEdge}
use Rattle.serial_pass.specs.Plans.{predecessors}
use Rattle.graph_nodes.specs.declared.graph.Edge.{Edge}
use Rattle.graph_nodes.specs.declared.graph.Node.{Node}
use Rattle.graph_nodes.specs.Numbered.{by_number}
use Rattle.graph_nodes.specs.Nodes.{targets}
use Rattle.module_graph.specs.declared.direction.Direction.TheVariants.{BottomUp}
use Rattle.module_graph.specs.Planned.{turned_edge, plan_edges}

before_append : (xs ys : List PlanEdge) (n : ℕ) → predecessors (xs ++ ys) n ≡ predecessors xs n ++ predecessors ys n
before_append xs ys n = rw filter-append (rw map-append refl)

before_hit : (e : PlanEdge) (es : List PlanEdge) (n : ℕ) → e.to.0 ≡ n
    → predecessors (e ∷ es) n ≡ e.from.0 ∷ predecessors es n
before_hit e es n h = rw (eq-eqb e.to.0 n h) refl

before_miss : (e : PlanEdge) (es : List PlanEdge) (n : ℕ) → (e.to.0 ≡ n → ⊥)
    → predecessors (e ∷ es) n ≡ predecessors es n
before_miss e es n h = rw (ne_eqb e.to.0 n h) refl

same_node : (es : List Edge) (n : ℕ) → predecessors (map (turned_edge n) es) n ≡ map (λ (e : Edge). e.to.0) es
same_node [] n = refl
same_node (e ∷ es) n =
    before_hit (turned_edge n e) (map (turned_edge n) es) n refl ∙ ap (λ r. e.to.0 ∷ r) (same_node es n)

other_node : (es : List Edge) (k n : ℕ) → k ≢ n → predecessors (map (turned_edge k) es) n ≡ []
other_node [] k n ne = refl
other_node (e ∷ es) k n ne = before_miss (turned_edge k e) (map (turned_edge k) es) n ne ∙ other_node es k n ne

module _ {P : Type 0} where
  abbrev pieces : ℕ → Node P → List PlanEdge
  pieces n x = map (turned_edge n) x.edges

  none_before : (xs : List (Node P)) (k n : ℕ) → n < k → predecessors (by_number pieces k xs) n ≡ []
  none_before [] k n lt = refl
  none_before (x ∷ xs) k n lt =
      let ne : k ≢ n = omega arith in let lt' : n < k + 1 = omega arith in
      before_append (map (turned_edge k) x.edges) (by_number pieces (k + 1) xs) n
      ∙ ap (λ (r : List ℕ). r ++ predecessors (by_number pieces (k + 1) xs) n) (other_node x.edges k n ne)
      ∙ none_before xs (k + 1) n lt'

  from_number : (xs : List (Node P)) (k j : ℕ) → predecessors (by_number pieces k xs) (k + j) ≡ targets xs j
  from_number [] k j = refl
  from_number (x ∷ xs) k zero =
      let lt : k < k + 1 = omega arith in
      ap (predecessors (by_number pieces k (x ∷ xs))) (add-zero k)
      ∙ before_append (map (turned_edge k) x.edges) (by_number pieces (k + 1) xs) k
      ∙ ap (λ (r : List ℕ). predecessors (map (turned_edge k) x.edges) k ++ r) (none_before xs (k + 1) k lt)
      ∙ append-nil (predecessors (map (turned_edge k) x.edges) k)
      ∙ same_node x.edges k
  from_number (x ∷ xs) k (suc j) =
      let ne : k ≢ k + suc j = omega arith in let e : k + suc j ≡ (k + 1) + j = omega arith in
      before_append (map (turned_edge k) x.edges) (by_number pieces (k + 1) xs) (k + suc j)
      ∙ ap (λ (r : List ℕ). r ++ predecessors (by_number pieces (k + 1) xs) (k + suc j))
      (other_node x.edges k (k + suc j) ne)
      ∙ ap (predecessors (by_number pieces (k + 1) xs)) e ∙ from_number xs (k + 1) j

  pub predecessors_targets : (nodes : List (Node P)) (n : ℕ)
      → predecessors (plan_edges BottomUp nodes) n ≡ targets nodes n
  predecessors_targets nodes n =
      ap (predecessors (plan_edges BottomUp nodes)) (sym (zero-add n)) ∙ from_number nodes 0 n
