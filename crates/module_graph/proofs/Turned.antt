-- The plan from the bottom up is the graph's edges turned round, and that from the top down the same edges by target:
-- walks return in all three or in none.
use Rattle.std.proofs.Common.{◌≡◌, ◌+◌, ◌<◌, ◌++◌, ℕ, zero, suc, List, [], ◌∷◌, map, length, refl, ap, ◌∙◌, sym, subst}
use Rattle.std.proofs.Common.{get_or}
use Rattle.std.specs.Prelude.{Contains}
use Rattle.std.specs.List.{AllByRecursion}
use Rattle.std.proofs.lemmas.List.{map-append}
use Rattle.std.proofs.lemmas.List.Elements.{recursion_from_All, All-from_recursion, All-contains_itself}
use Rattle.serial_pass.specs.declared.plan.PlanEdge.{PlanEdge}
use Rattle.serial_pass.specs.Plans.{in_edges, HasNoCycle, HaveEndsBelow}
use Rattle.graph_nodes.specs.declared.graph.Edge.{Edge}
use Rattle.graph_nodes.specs.declared.graph.Node.{Node}
use Rattle.graph_nodes.specs.Numbered.{by_number}
use Rattle.graph_nodes.specs.Nodes.{NameNodes}
use Rattle.module_graph.specs.declared.direction.Direction.{Direction}
use Rattle.module_graph.specs.declared.direction.Direction.TheVariants.{BottomUp, TopDown}
use Rattle.module_graph.specs.Graphs.{outward, edges_of}
use Rattle.module_graph.specs.Planned.{turned_edge, by_target, plan_edges}
use Rattle.module_graph.specs.Walks.{Leads, Walk, NoneReturns}
use Rattle.bp_faults.proofs.Lists.{all_map, all_image}
use Rattle.module_graph.proofs.Alls.{edges_of_ends, turned_ends}
use Rattle.module_graph.proofs.Sorted.{all_by_target, into_by_target, all_into, all_of_into}
use Rattle.module_graph.proofs.Walking.{at_step, none_returns, walk_push}
use Rattle.module_graph.proofs.Ranked.{ranked}

abbrev flip : PlanEdge → PlanEdge
flip e = record { from = e.to; to = e.from }

flip_twice : (es : List PlanEdge) → map flip (map flip es) ≡ es
flip_twice [] = refl
flip_twice (e ∷ es) = ap (λ r. e ∷ r) (flip_twice es)

flip_each : (n : ℕ) (es : List Edge) → map (turned_edge n) es ≡ map flip (map (outward n) es)
flip_each n [] = refl
flip_each n (e ∷ es) = ap (λ r. turned_edge n e ∷ r) (flip_each n es)

flip_all : {P : Type 0} (k : ℕ) (xs : List (Node P)) → by_number (λ n (x : Node P). map (turned_edge n) x.edges) k xs
    ≡ map flip (by_number (λ n (x : Node P). map (outward n) x.edges) k xs)
flip_all k [] = refl
flip_all {P} k (x ∷ xs) =
    ap (λ (l : List PlanEdge). l ++ by_number (λ n (x : Node P). map (turned_edge n) x.edges) (k + 1) xs)
    (flip_each k x.edges)
    ∙ ap (λ (l : List PlanEdge). map flip (map (outward k) x.edges) ++ l) (flip_all (k + 1) xs)
    ∙ sym (map-append flip (map (outward k) x.edges) (by_number (λ n (x : Node P). map (outward n) x.edges) (k + 1) xs))

module _ (es : List PlanEdge) where
  step_back : (n m : ℕ) → Leads (map flip es) n m → Leads es m n
  step_back n m l = at_step (λ i j. Leads es j i) (map flip es)
      (all_image (Contains es) (λ (e : PlanEdge). Leads es e.to.0 e.from.0) flip (λ e has. (e, has, refl, refl)) es
      (recursion_from_All (Contains es) es (All-contains_itself es))) n m l

  walk_back : (k n m : ℕ) → Walk (map flip es) k n m → Walk es k m n
  walk_back zero n m w = sym w
  walk_back (suc k) n m w = walk_push es k m w.0 n (walk_back k w.0 m w.2) (step_back n w.0 w.1)

  none_flipped : NoneReturns es → NoneReturns (map flip es)
  none_flipped none n r = none n (r.0, walk_back (suc r.0) n n r.1)

none_turned : {P : Type 0} (nodes : List (Node P)) → NoneReturns (edges_of nodes)
    → NoneReturns (plan_edges BottomUp nodes)
none_turned nodes none =
    subst (λ (l : List PlanEdge). NoneReturns l) (sym (flip_all 0 nodes)) (none_flipped (edges_of nodes) none)

none_from_turned : {P : Type 0} (nodes : List (Node P)) → NoneReturns (plan_edges BottomUp nodes)
    → NoneReturns (edges_of nodes)
none_from_turned nodes none =
    subst (λ (l : List PlanEdge). NoneReturns l) (ap (map flip) (flip_all 0 nodes) ∙ flip_twice (edges_of nodes))
    (none_flipped (plan_edges BottomUp nodes) none)

module _ (count : ℕ) (es : List PlanEdge) where
  free_sorted : HasNoCycle es → HasNoCycle (by_target count es)
  free_sorted free = record {
    rank = free.rank;
    rises = all_by_target es count (λ (e : PlanEdge). free.rank e.from.0 < free.rank e.to.0) free.rises;
  }

  free_from_sorted : HaveEndsBelow count es → HasNoCycle (by_target count es) → HasNoCycle es
  free_from_sorted ends free = record {
    rank = free.rank;
    rises = recursion_from_All (λ (e : PlanEdge). free.rank e.from.0 < free.rank e.to.0) es
        (λ i d lt. let e = get_or es i d in
        let inside = (All-from_recursion (λ (e : PlanEdge). (e.from.0 < count) × (e.to.0 < count)) es ends i d lt).1 in
        let into = all_map (λ (x : PlanEdge). (free.rank x.from.0 < free.rank x.to.0) × (x.to.0 ≡ e.to.0))
        (λ (x : PlanEdge). free.rank x.from.0 < free.rank x.to.0) (λ x h. h.0) (in_edges (by_target count es) e.to.0)
        (all_into (by_target count es) e.to.0 (λ (x : PlanEdge). free.rank x.from.0 < free.rank x.to.0) free.rises) in
        All-from_recursion (λ (x : PlanEdge). x.to.0 ≡ e.to.0 → free.rank x.from.0 < free.rank x.to.0) es
        (all_of_into es e.to.0 (λ (x : PlanEdge). free.rank x.from.0 < free.rank x.to.0)
        (subst (λ (l : List PlanEdge). AllByRecursion (λ (x : PlanEdge). free.rank x.from.0 < free.rank x.to.0) l)
        (into_by_target es count e.to.0 inside) into)) i d lt refl);
  }

module _ {P : Type 0} (nodes : List (Node P)) (ends : NameNodes nodes) where
  -- where no walk returns, the plan has no cycle
  pub plan_free : (dir : Direction) → NoneReturns (edges_of nodes) → HasNoCycle (plan_edges dir nodes)
  plan_free BottomUp none =
      ranked (length nodes) (plan_edges BottomUp nodes) (turned_ends nodes ends) (none_turned nodes none)
  plan_free TopDown none =
      free_sorted (length nodes) (edges_of nodes)
      (ranked (length nodes) (edges_of nodes) (edges_of_ends nodes ends) none)

  -- and where the plan has no cycle, no walk returns
  pub plan_free_only : (dir : Direction) → HasNoCycle (plan_edges dir nodes) → NoneReturns (edges_of nodes)
  plan_free_only BottomUp free = none_from_turned nodes (none_returns (plan_edges BottomUp nodes) free)
  plan_free_only TopDown free =
      none_returns (edges_of nodes) (free_from_sorted (length nodes) (edges_of nodes) (edges_of_ends nodes ends) free)
