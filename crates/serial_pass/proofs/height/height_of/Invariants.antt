use Rattle.std.proofs.Common.{◌≡◌, map, take}
use Rattle.serial_pass.specs.Heights.{height, above_all}
use Rattle.serial_pass.specs.Plans.{sources}
use Rattle.serial_pass.proofs.height.height_of.Given as goal

abbrev pub invariant-loop-edge : goal.invariant-loop-edge
invariant-loop-edge l = l.height ≡ above_all (map (height l.plan) (sources (take l.edge-index l.edge-items)))
