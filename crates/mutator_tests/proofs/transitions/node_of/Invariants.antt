use Rattle.std.proofs.Common.{◌<◌, ◌≤◌, length}
use Rattle.std.specs.List.{AllByRecursion}
use Rattle.graph_nodes.specs.declared.graph.Edge.{Edge}
use Rattle.mutator_tests.proofs.transitions.node_of.Given as goal

abbrev pub invariant-loop-to : goal.invariant-loop-to
invariant-loop-to l = AllByRecursion (λ (e : Edge). e.to.0 < l.count) l.edges.items × (length l.edges.items ≤ 4)
