use Rattle.std.proofs.Common.{length, ◌-◌, ◌+◌, ◌≤◌}
use Rattle.serial_pass.specs.InEdges.{edges_below}
use Rattle.serial_pass.proofs.in_edges.end_of.Given as goal

abbrev pub invariant-loop-end : goal.invariant-loop-end
invariant-loop-end l = (edges_below l.edges l.n ≤ l.end) × (l.end ≤ edges_below l.edges (l.n + 1))

abbrev pub decreases-loop-end : goal.decreases-loop-end
decreases-loop-end l = length l.edges - l.end
