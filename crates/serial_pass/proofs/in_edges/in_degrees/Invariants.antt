use Rattle.std.proofs.Common.{◌≡◌, length, map}
use Rattle.std.specs.List.{range_with_len}
use Rattle.serial_pass.specs.Plans.{predecessors}
use Rattle.serial_pass.proofs.in_edges.in_degrees.Given as goal

abbrev pub invariant-loop-n : goal.invariant-loop-n
invariant-loop-n l = l.counts.items ≡ map (λ n. length (predecessors l.plan.edges n)) (range_with_len 0 l.n)
