use Rattle.serial_pass.specs.Orders.{numbers}
use Rattle.pass_ways.specs.Stretches.{TellsStretches}
use Rattle.pass_ways.proofs.stretches.stretch_numbers.Given as goal

abbrev pub invariant-loop-index : goal.invariant-loop-index
invariant-loop-index l = TellsStretches l.plan.count l.size (numbers l.order) l.index l.table.items
