use Rattle.std.proofs.Common.{take}
use Rattle.serial_pass.specs.Orders.{numbers}
use Rattle.serial_pass.specs.Results.{node_result}
use Rattle.serial_pass.specs.Made.{IsMade}
use Rattle.serial_pass.proofs.serial.visit_along.Given as goal

abbrev pub invariant-loop-n : goal.invariant-loop-n
invariant-loop-n g l =
    IsMade (node_result (g.V.Visit.meaning l.v) l.plan) l.plan.count (take l.n-index (numbers l.order)) l.made.items
