use Rattle.std.proofs.Common.{◌≡◌, length, take}
use Rattle.serial_pass.specs.Orders.{numbers}
use Rattle.pass_ways.specs.Stretches.{MarksSources}
use Rattle.pass_ways.proofs.stretches.sources_of.Given as goal

abbrev pub invariant-loop-n : goal.invariant-loop-n
invariant-loop-n l = (length l.marks.items ≡ l.many)
    × MarksSources l.plan.edges l.table (numbers (take l.n-index l.nodes)) l.marks.items
