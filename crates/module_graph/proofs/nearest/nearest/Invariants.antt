use Rattle.std.proofs.Common.{take}
use Rattle.module_graph.specs.Search.{IsNearestFound}
use Rattle.module_graph.proofs.nearest.nearest.Given as goal

abbrev pub invariant-loop-edge : goal.invariant-loop-edge
invariant-loop-edge l = IsNearestFound l.found (take l.edge-index l.edges) l.best
