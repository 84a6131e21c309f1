-- Numberings that no edge goes down, and walks.
use Rattle.std.proofs.Common.{◌≡◌, ◌+◌, ◌<◌, ◌≤◌, ℕ, zero, suc, List, map, length, take, get_or, refl, ap, sym, subst}
use Rattle.std.proofs.Common.{arith, take_all}
use Rattle.std.specs.List.{AllByRecursion}
use Rattle.serial_pass.specs.declared.plan.PlanEdge.{PlanEdge}
use Rattle.bp_faults.proofs.Lists.{all_map, all_append, all_image}
use Rattle.graph_nodes.specs.declared.graph.Node.{Node}
use Rattle.graph_nodes.specs.Laws.{OneMoreItem}
use Rattle.module_graph.specs.Graphs.{outward, edges_of}
use Rattle.module_graph.specs.Walks.{Walk, Returns}
use Rattle.module_graph.proofs.Numbers.{by_number_step}
use Rattle.module_graph.proofs.Walking.{at_step}

-- what holds of the edges of the first nodes and of the next node's
pub all_edges_more : {P : Type 0} → OneMoreItem (Node P) PlanEdge → (Q : PlanEdge → Type 0) (nodes : List (Node P))
    (n : ℕ) (x : Node P) → n < length nodes → x ≡ get_or nodes n x
    → AllByRecursion Q (edges_of (take n nodes)) → AllByRecursion (λ e. Q (outward n e)) x.edges
    → AllByRecursion Q (edges_of (take (n + 1) nodes))
all_edges_more {P} one_more Q nodes n x lt read before here =
    subst (λ (l : List PlanEdge). AllByRecursion Q l)
    (sym (by_number_step one_more (λ k (y : Node P). map (outward k) y.edges) nodes n x lt))
    (all_append Q (edges_of (take n nodes)) (map (outward n) (get_or nodes n x).edges) before
    (subst (λ (y : Node P). AllByRecursion Q (map (outward n) y.edges)) read
    (all_image (λ e. Q (outward n e)) Q (outward n) (λ e h. h) x.edges here)))

module _ (edges : List PlanEdge) (number : ℕ → ℕ)
    (climbs : AllByRecursion (λ (e : PlanEdge). number e.from.0 ≤ number e.to.0) edges) where
  walk_climbs : (k n m : ℕ) → Walk edges k n m → number n ≤ number m
  walk_climbs zero n m w = let e = ap number w in omega arith
  walk_climbs (suc k) n m w =
      let step : number n ≤ number w.0 = at_step (λ i j. number i ≤ number j) edges climbs n w.0 w.1 in
      let rest = walk_climbs k w.0 m w.2 in
      omega arith

  -- a node whose edges all go up can't reach itself
  pub not_back : (n : ℕ) → AllByRecursion (λ (e : PlanEdge). e.from.0 ≡ n → number e.from.0 < number e.to.0) edges
      → Returns edges n → ⊥
  not_back n strict r =
      let w = r.1 in
      let step : number n < number w.0 = at_step (λ i j. i ≡ n → number i < number j) edges strict n w.0 w.1 refl in
      let rest = walk_climbs r.0 w.0 n w.2 in absurd (omega arith)

-- where no edge goes down, and those of the first nodes all go up, none of these can reach itself
pub none_below : {P : Type 0} (nodes : List (Node P)) (i first : ℕ) (number : ℕ → ℕ) → length nodes ≤ i
    → AllByRecursion (λ (e : PlanEdge). number e.from.0 ≤ number e.to.0) (edges_of (take i nodes))
    → AllByRecursion (λ (e : PlanEdge). e.from.0 < first → number e.from.0 < number e.to.0) (edges_of (take i nodes))
    → (n : ℕ) → n < first → Returns (edges_of nodes) n → ⊥
none_below {P} nodes i first number le climbs strict n lt =
    let whole = take_all i nodes le in
    not_back (edges_of nodes) number (subst (λ (l : List (Node P)).
    AllByRecursion (λ (e : PlanEdge). number e.from.0 ≤ number e.to.0) (edges_of l)) whole climbs) n
    (all_map (λ (e : PlanEdge). e.from.0 < first → number e.from.0 < number e.to.0)
    (λ (e : PlanEdge). e.from.0 ≡ n → number e.from.0 < number e.to.0) (λ e h at. h (omega arith)) (edges_of nodes)
    (subst (λ (l : List (Node P)).
    AllByRecursion (λ (e : PlanEdge). e.from.0 < first → number e.from.0 < number e.to.0) (edges_of l)) whole strict))
