use Rattle.serial_pass.specs.Orders.{numbers}
use Rattle.pass_ways.specs.Stretches.{LinksStretches}
use Rattle.pass_ways.proofs.stretches.plan_of_stretches.Given as goal

abbrev pub invariant-loop-k : goal.invariant-loop-k
invariant-loop-k l = LinksStretches l.plan l.size (numbers l.order) l.table.items l.k l.edges.items
