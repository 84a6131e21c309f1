use Rattle.std.proofs.Common.{◌≡◌, take}
use Rattle.serial_pass.specs.Orders.{numbers}
use Rattle.pass_ways.specs.Stretches.{joined_stretches}
use Rattle.pass_ways.proofs.stretches.join_stretches.Given as goal

abbrev pub invariant-loop-k : goal.invariant-loop-k
invariant-loop-k l = l.nodes.items ≡ joined_stretches l.size l.order (numbers (take l.k-index l.turns))
