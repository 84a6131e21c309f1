-- The edges that lead to a node are those of its predecessors from the top down.
use Rattle.std.proofs.Common.{◌≡◌, ◌+◌, ◌<◌, ◌==◌, ◌++◌, ℕ, List, [], ◌∷◌, map, length, get_or, take, refl, ap, ◌∙◌}
use Rattle.std.proofs.Common.{sym, arith, Bool, true, false, cond}
use Rattle.std.specs.List.{AllByRecursion}
use Rattle.std.proofs.lemmas.List.{map-append, length-take-le}
use Rattle.std.proofs.lemmas.List.Elements.{filter-append}
use Rattle.bp_faults.specs.declared.ids.NodeId.{NodeId}
use Rattle.bp_faults.proofs.Lists.{take-more, all_append}
use Rattle.serial_pass.specs.declared.plan.PlanEdge.{PlanEdge}
use Rattle.serial_pass.specs.Plans.{in_edges, sources, predecessors}
use Rattle.graph_nodes.specs.declared.graph.Edge.{Edge}
use Rattle.graph_nodes.specs.declared.graph.EdgeKind.{EdgeKind}
use Rattle.graph_nodes.specs.declared.graph.Node.{Node}
use Rattle.graph_nodes.specs.Numbered.{by_number}
use Rattle.graph_nodes.specs.Laws.{OneMoreItem}
use Rattle.module_graph.specs.Graphs.{outward}
use Rattle.mutator_rules.specs.Arrivals.{edges_to, from_node, arrivals}

abbrev source_of : NodeId × EdgeKind → ℕ
source_of a = a.0.0

node_sources : (n d : ℕ) (es : List Edge) → predecessors (map (outward d) es) n ≡ map source_of (from_node n d es)
node_sources n d [] = refl
node_sources n d (e ∷ es) = by (e.to.0 == n) (node_sources n d es)
  where
    by : (b : Bool) → predecessors (map (outward d) es) n ≡ map source_of (from_node n d es)
        → sources (cond b (outward d e ∷ in_edges (map (outward d) es) n) (in_edges (map (outward d) es) n))
        ≡ map source_of
        (map (λ (e : Edge). (record { 0 = d }, e.kind)) (cond b (e ∷ edges_to n es) (edges_to n es)))
    by true rest = ap (λ l. d ∷ l) rest
    by false rest = rest

before_append : (xs ys : List PlanEdge) (n : ℕ) → predecessors (xs ++ ys) n ≡ predecessors xs n ++ predecessors ys n
before_append xs ys n = rw filter-append (rw map-append refl)

module _ {P : Type 0} where
  abbrev outward_from : ℕ → Node P → List PlanEdge
  outward_from d x = map (outward d) x.edges

  -- from the top down a node's predecessors are the sources of the edges that lead to it
  pub from_number : (n k : ℕ) (xs : List (Node P))
      → predecessors (by_number outward_from k xs) n
      ≡ map source_of (by_number (λ d (x : Node P). from_node n d x.edges) k xs)
  from_number n k [] = refl
  from_number n k (x ∷ xs) =
      let rest = by_number (λ d (x : Node P). from_node n d x.edges) (k + 1) xs in
      before_append (map (outward k) x.edges) (by_number outward_from (k + 1) xs) n
      ∙ ap (λ (l : List ℕ). l ++ predecessors (by_number outward_from (k + 1) xs) n) (node_sources n k x.edges)
      ∙ ap (λ (l : List ℕ). map source_of (from_node n k x.edges) ++ l) (from_number n (k + 1) xs)
      ∙ sym (map-append source_of (from_node n k x.edges) rest)

  -- one more node adds the edges that lead from it
  pub arrivals_more : OneMoreItem (Node P) (NodeId × EdgeKind) → (nodes : List (Node P)) (n t : ℕ) (node : Node P)
      → n < length nodes → node ≡ get_or nodes n node
      → arrivals (take (n + 1) nodes) t ≡ arrivals (take n nodes) t ++ from_node t n node.edges
  arrivals_more one_more nodes n t node lt is =
      ap (λ l. arrivals l t) (take-more nodes n node lt is)
      ∙ one_more (λ d (x : Node P). from_node t d x.edges) (take n nodes) node
      ∙ ap (λ k. arrivals (take n nodes) t ++ from_node t k node.edges) (length-take-le n nodes (omega arith))

module _ (count : ℕ) where
  abbrev IsFromNode : NodeId × EdgeKind → Type 0
  IsFromNode a = a.0.0 < count

  all_from : (n d : ℕ) (es : List Edge) → d < count → AllByRecursion IsFromNode (from_node n d es)
  all_from n d [] lt = tt
  all_from n d (e ∷ es) lt = by (e.to.0 == n) (all_from n d es lt)
    where
      by : (b : Bool) → AllByRecursion IsFromNode (from_node n d es)
          → AllByRecursion {X = NodeId × EdgeKind} IsFromNode
          (map (λ (e : Edge). (record { 0 = d }, e.kind)) (cond b (e ∷ edges_to n es) (edges_to n es)))
      by true rest = (lt, rest)
      by false rest = rest

  -- the sources of the edges that lead to a number are nodes
  pub all_arrived : {P : Type 0} (n k : ℕ) (xs : List (Node P)) → k + length xs ≡ count
      → AllByRecursion IsFromNode (by_number (λ d (x : Node P). from_node n d x.edges) k xs)
  all_arrived n k [] all = tt
  all_arrived {P} n k (x ∷ xs) all =
      all_append IsFromNode (from_node n k x.edges) (by_number (λ d (y : Node P). from_node n d y.edges) (k + 1) xs)
      (all_from n k x.edges (omega arith)) (all_arrived n (k + 1) xs (omega arith))
