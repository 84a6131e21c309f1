use Rattle.std.proofs.Common.{take}
use Rattle.std.specs.List.{AllByRecursion}
use Rattle.pass_core.specs.CoreStates.{IsMarked}
use Rattle.serial_pass.specs.Plans.{sources}
use Rattle.pass_core.proofs.order_run.is_ready.Given as goal

abbrev pub invariant-loop-edge : goal.invariant-loop-edge
invariant-loop-edge l = AllByRecursion (IsMarked l.visited) (sources (take l.edge-index l.edge-items))
