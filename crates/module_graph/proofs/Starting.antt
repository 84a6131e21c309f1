-- The start of a cycle, by distances along the plan from the top down.
use Rattle.std.proofs.Common.{◌≡◌, ◌<◌, ℕ, zero, suc, List, [], ◌∷◌, length, refl, ap, ◌∙◌, sym, subst, arith, Option}
use Rattle.std.proofs.Common.{Some, None, get_or}
use Rattle.std.specs.Prelude.{Contains}
use Rattle.std.specs.List.{AllByRecursion}
use Rattle.std.proofs.lemmas.List.Elements.{All-from_recursion, recursion_from_All, All-contains, All-contains_itself}
use Rattle.serial_pass.specs.declared.plan.PlanEdge.{PlanEdge}
use Rattle.serial_pass.specs.Plans.{in_edges, HaveEndsBelow}
use Rattle.bp_faults.proofs.Lists.{all_map}
use Rattle.graph_nodes.specs.declared.graph.Edge.{Edge}
use Rattle.graph_nodes.specs.declared.graph.Node.{Node}
use Rattle.graph_nodes.specs.Nodes.{NameNodes, edges_at}
use Rattle.module_graph.specs.declared.nearest.Near.{Near}
use Rattle.module_graph.specs.Graphs.{edges_of}
use Rattle.module_graph.specs.Planned.{by_target}
use Rattle.module_graph.specs.Walks.{Leads, Walk, Returns}
use Rattle.module_graph.specs.Search.{found_at, AreDistances, IsNearestFound}
use Rattle.module_graph.proofs.Alls.{edges_of_ends}
use Rattle.module_graph.proofs.Outward.{all_middle, edges_at_is, leads_out, at_target}
use Rattle.module_graph.proofs.Sorted.{all_by_target, into_by_target, all_into, all_of_into}
use Rattle.module_graph.proofs.Walking.{at_step}

abbrev Same : List PlanEdge → PlanEdge → Type 0
Same es e = Leads es e.from.0 e.to.0

walk_along : (from to : List PlanEdge) → ((n m : ℕ) → Leads from n m → Leads to n m) → (k n m : ℕ) → Walk from k n m
    → Walk to k n m
walk_along from to step zero n m w = w
walk_along from to step (suc k) n m w = (w.0, step n w.0 w.1, walk_along from to step k w.0 m w.2)

module _ (count : ℕ) (es : List PlanEdge) (ends : HaveEndsBelow count es) where
  from_sorted : (n m : ℕ) → Leads (by_target count es) n m → Leads es n m
  from_sorted n m l = at_step (Leads es) (by_target count es)
      (all_by_target es count (Same es) (all_map (Contains es) (Same es) (λ e has. (e, has, refl, refl)) es
      (recursion_from_All (Contains es) es (All-contains_itself es)))) n m l

  to_sorted : (n m : ℕ) → Leads es n m → Leads (by_target count es) n m
  to_sorted n m l =
      let sorted = by_target count es in
      let inside : m < count = (at_step (λ i j. (i < count) × (j < count)) es ends n m l).1 in
      let all = all_map (λ (e : PlanEdge). Contains sorted e × (e.to.0 ≡ m)) (Same sorted) (λ e h. (e, h.0, refl, refl))
      (in_edges sorted m)
      (all_into sorted m (Contains sorted)
      (recursion_from_All (Contains sorted) sorted (All-contains_itself sorted))) in
      let each = all_of_into es m (Same sorted)
      (subst (λ (l : List PlanEdge). AllByRecursion (Same sorted) l) (into_by_target es count m inside) all) in
      let here = All-contains (λ (e : PlanEdge). e.to.0 ≡ m → Same sorted e) es l.0
      (All-from_recursion (λ (e : PlanEdge). e.to.0 ≡ m → Same sorted e) es each) l.1 l.3 in
      subst (λ j. Leads sorted n j) l.3 (subst (λ i. Leads sorted i l.0.to.0) l.2 here)

  -- distances along the edges by target are distances along the edges
  pub distances_unsorted : (s : ℕ) (found : List (Option ℕ)) → AreDistances (by_target count es) s found
      → AreDistances es s found
  distances_unsorted s found are = record {
    right = λ n d is. let at = are.right n d is in record {
      walk = walk_along (by_target count es) es from_sorted d n s at.walk;
      least = λ k w. at.least k (walk_along es (by_target count es) to_sorted k n s w);
    };
    all = λ n k is w. are.all n k is (walk_along es (by_target count es) to_sorted k n s w);
  }

module _ {P : Type 0} (nodes : List (Node P)) (s : ℕ) (found : List (Option ℕ))
    (are : AreDistances (edges_of nodes) s found) where
  -- an edge to a node from which a walk leads back
  pub goes_back : (best : Near) → IsNearestFound found (edges_at nodes s) (Some best) → Returns (edges_of nodes) s
  goes_back best h =
      let leads = all_middle (λ (e : Edge). Leads (edges_of nodes) s e.to.0) h.0 best.edge h.1
      (subst (λ (es : List Edge). AllByRecursion (λ (e : Edge). Leads (edges_of nodes) s e.to.0) es) h.2
      (leads_out nodes s)) in
      (best.distance, (best.edge.to.0, leads, (are.right best.edge.to.0 best.distance h.3).walk))

  -- no edge to such a node
  pub goes_nowhere : IsNearestFound found (edges_at nodes s) None → Returns (edges_of nodes) s → ⊥
  goes_nowhere h r =
      let none = at_target (λ m. found_at found m ≡ None) nodes s h r.1.0 r.1.1 in
      are.all r.1.0 r.0 none r.1.2

-- a node that can reach itself is a node
pub returning_inside : {P : Type 0} (nodes : List (Node P)) → NameNodes nodes → (n : ℕ) → Returns (edges_of nodes) n
    → n < length nodes
returning_inside nodes ends n r =
    (at_step (λ i j. (i < length nodes) × (j < length nodes)) (edges_of nodes)
    (edges_of_ends nodes ends) n r.1.0 r.1.1).0

-- what is read of a node's edges, and of the distances
pub near_read : {P : Type 0} (nodes read : List (Node P)) (n : ℕ) (x : Node P) (es : List Edge)
    (found told : List (Option ℕ)) (best : Option Near) → n < length nodes → read ≡ nodes → es ≡ (get_or read n x).edges
    → told ≡ found → IsNearestFound told es best → IsNearestFound found (edges_at nodes n) best
near_read {P} nodes read n x es found told best lt same is tell near =
    subst (λ (l : List (Option ℕ)). IsNearestFound l (edges_at nodes n) best) tell
    (subst (λ (l : List Edge). IsNearestFound told l best)
    (is ∙ ap (λ (l : List (Node P)). (get_or l n x).edges) same ∙ sym (edges_at_is nodes n x lt)) near)

-- where a distance was found, there is a node
pub found_inside : (found : List (Option ℕ)) (n d : ℕ) → found_at found n ≡ Some d → n < length found
found_inside [] n d is = cc
found_inside (x ∷ xs) zero d is = omega arith
found_inside (x ∷ xs) (suc n) d is = let lt = found_inside xs n d is in omega arith
