-- Module graphs (Blueprint package documentation: modules, variants and dependencies).
use Rattle.std.specs.Prelude.{◌≡◌, ◌<◌, ◌^◌, ℕ, List, map, length}
use Rattle.std.specs.List.{AllPairs}
use Rattle.serial_pass.specs.declared.plan.PlanEdge.{PlanEdge}
use Rattle.graph_nodes.specs.declared.graph.Edge.{Edge}
use Rattle.graph_nodes.specs.declared.graph.Node.{Node}
use Rattle.graph_nodes.specs.Nodes.{NameNodes}
use Rattle.graph_nodes.specs.Numbered.{by_number}
use Rattle.module_graph.specs.Walks.{NoneReturns}

-- An edge of node n, from n to its target.
abbrev pub outward : ℕ → Edge → PlanEdge
outward n e = record { from = record { 0 = n }; to = e.to }

module _ {P : Type 0} where
  -- The edges of a graph, each from its node to its target, by node and index.
  abbrev pub edges_of : List (Node P) → List PlanEdge
  edges_of nodes = by_number (λ n (x : Node P). map (outward n) x.edges) 0 nodes

  -- A `u32` numbers the nodes and the edges of a graph, and each edge names a node.
  pub record IsNumbered (nodes : List (Node P)) : Type 0 where
    pub few_nodes : length nodes < 2 ^ 32
    pub few_edges : length (edges_of nodes) < 2 ^ 32
    pub ends : NameNodes nodes

  -- A graph is valid where each edge names a node, no two nodes of one module have equal variations, and no walk
  -- returns to its start.
  pub record IsValid (nodes : List (Node P)) : Type 0 where
    pub ends : NameNodes nodes
    pub distinct : AllPairs (λ (x y : Node P). x.module ≡ y.module → x.vars ≡ y.vars → ⊥) nodes
    pub acyclic : NoneReturns (edges_of nodes)
