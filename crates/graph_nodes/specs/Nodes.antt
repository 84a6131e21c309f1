-- The nodes of a module graph and their edges.
use Rattle.std.specs.Prelude.{◌<◌, ℕ, zero, suc, List, [], ◌∷◌, map, length}
use Rattle.std.specs.List.{AllByRecursion, flat_map}
use Rattle.graph_nodes.specs.declared.graph.Edge.{Edge}
use Rattle.graph_nodes.specs.declared.graph.Node.{Node}

module _ {P : Type 0} where
  -- The edges of a graph, in node order.
  abbrev pub all_edges : List (Node P) → List Edge
  all_edges nodes = flat_map (λ (x : Node P). x.edges) nodes

  -- The edges of a node, in order.
  abbrev pub edges_at : List (Node P) → ℕ → List Edge
  edges_at [] n = []
  edges_at (x ∷ xs) zero = x.edges
  edges_at (x ∷ xs) (suc n) = edges_at xs n

  -- The targets of a node's edges, in order.
  abbrev pub targets : List (Node P) → ℕ → List ℕ
  targets [] n = []
  targets (x ∷ xs) zero = map (λ (e : Edge). e.to.0) x.edges
  targets (x ∷ xs) (suc n) = targets xs n

  -- Each edge names a node.
  abbrev pub NameNodes : List (Node P) → Type 0
  NameNodes nodes = AllByRecursion (λ (x : Node P). AllByRecursion (λ (e : Edge). e.to.0 < length nodes) x.edges) nodes
