use Rattle.std.proofs.Common.{◌≤◌, take, slice_index}
use Rattle.std.specs.List.{AllByRecursion}
use Rattle.graph_nodes.specs.declared.graph.Edge.{Edge}
use Rattle.module_graph.proofs.settled.least_target.Given as goal

abbrev pub invariant-loop-edge : goal.invariant-loop-edge
invariant-loop-edge l =
    AllByRecursion (λ (e : Edge). l.least ≤ slice_index l.numbers e.to.0) (take l.edge-index l.edges)
