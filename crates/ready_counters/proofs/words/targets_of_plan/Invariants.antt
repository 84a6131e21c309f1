use Rattle.std.proofs.Common.{◌≡◌, take}
use Rattle.ready_counters.specs.Edges.{edge_targets}
use Rattle.ready_counters.proofs.words.targets_of_plan.Given as goal

abbrev pub invariant-loop-edge : goal.invariant-loop-edge
invariant-loop-edge l = l.targets.items ≡ edge_targets (take l.edge-index l.plan.edges)
