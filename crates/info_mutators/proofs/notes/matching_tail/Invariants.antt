use Rattle.std.proofs.Common.{◌≡◌, ◌-◌, length, take, drop, reverse}
use Rattle.serial_pass.specs.Orders.{numbers}
use Rattle.info_mutators.proofs.notes.matching_tail.Given as goal

abbrev pub invariant-loop-count : goal.invariant-loop-count
invariant-loop-count l = reverse (numbers (drop (length l.nodes - l.count) l.nodes)) ≡ numbers (take l.count l.others)
