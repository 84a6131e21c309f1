use Rattle.std.proofs.Common.{◌<◌, take}
use Rattle.std.specs.List.{AllByRecursion}
use Rattle.graph_nodes.specs.declared.graph.Edge.{Edge}
use Rattle.pass_tests.proofs.graphs.lead_inside.Given as goal

abbrev pub invariant-loop-edge : goal.invariant-loop-edge
invariant-loop-edge l = AllByRecursion (λ (e : Edge). e.to.0 < l.count) (take l.edge-index l.edges)
