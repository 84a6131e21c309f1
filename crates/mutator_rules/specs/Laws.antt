-- What holds of the edges that lead to a node.
use Rattle.std.specs.Prelude.{◌≡◌, ◌<◌, ℕ, List, map, length}
use Rattle.std.specs.List.{AllByRecursion}
use Rattle.bp_faults.specs.declared.ids.NodeId.{NodeId}
use Rattle.serial_pass.specs.Plans.{predecessors}
use Rattle.graph_nodes.specs.declared.graph.EdgeKind.{EdgeKind}
use Rattle.graph_nodes.specs.declared.graph.Node.{Node}
use Rattle.module_graph.specs.declared.direction.Direction.TheVariants.{TopDown}
use Rattle.module_graph.specs.Planned.{plan_edges}
use Rattle.mutator_rules.specs.Arrivals.{arrivals}

module _ (P : Type 0) where
  -- From the top down the predecessors of a node are the sources of the edges that lead to it, in the same order.
  abbrev pub PredecessorsAreArrivals : Type 0
  PredecessorsAreArrivals =
      (nodes : List (Node P)) (n : ℕ) → n < length nodes
      → predecessors (plan_edges TopDown nodes) n ≡ map (λ a. a.0.0) (arrivals nodes n)

  -- The edges that lead to a number come from nodes.
  abbrev pub ArrivalsComeFromNodes : Type 0
  ArrivalsComeFromNodes =
      (nodes : List (Node P)) (n : ℕ)
      → AllByRecursion (λ (a : NodeId × EdgeKind). a.0.0 < length nodes) (arrivals nodes n)
