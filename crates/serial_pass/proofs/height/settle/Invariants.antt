use Rattle.serial_pass.specs.Settling.{path_cost, IsOnWay}
use Rattle.serial_pass.proofs.height.settle.Given as goal

abbrev pub invariant-loop-climb : goal.invariant-loop-climb
invariant-loop-climb l = IsOnWay l.plan l.settled.items l.path.items

abbrev pub decreases-loop-climb : goal.decreases-loop-climb
decreases-loop-climb l = path_cost l.plan l.path.items
