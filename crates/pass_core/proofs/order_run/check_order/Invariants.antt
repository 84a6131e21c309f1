use Rattle.serial_pass.specs.Orders.{numbers}
use Rattle.pass_core.proofs.Listed.{IsChecked}
use Rattle.pass_core.proofs.order_run.check_order.Given as goal

abbrev pub invariant-loop-index : goal.invariant-loop-index
invariant-loop-index l = IsChecked l.plan (numbers l.order) l.index l.visited.items
