use Rattle.std.proofs.Common.{◌≡◌, map, take}
use Rattle.serial_pass.proofs.order.nodes_of.Given as goal

abbrev pub invariant-loop-height : goal.invariant-loop-height
invariant-loop-height l = l.nodes.items ≡ map (λ r. r.1) (take l._height-index l.ranked)
