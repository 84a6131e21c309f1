use Rattle.std.proofs.Common.{◌≡◌, map}
use Rattle.std.specs.List.{range_with_len}
use Rattle.serial_pass.specs.Inside.{ranked_node}
use Rattle.serial_pass.proofs.order.ranked_nodes.Given as goal

abbrev pub invariant-loop-n : goal.invariant-loop-n
invariant-loop-n l = l.nodes.items ≡ map (ranked_node l.plan) (range_with_len 0 l.n)
