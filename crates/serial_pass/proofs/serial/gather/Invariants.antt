use Rattle.std.proofs.Common.{◌≡◌, map, take, Some}
use Rattle.std.specs.Arc.{arc_value}
use Rattle.serial_pass.specs.Made.{made_at, all_of}
use Rattle.serial_pass.specs.Plans.{sources}
use Rattle.serial_pass.proofs.serial.gather.Given as goal

abbrev pub invariant-loop-edge : goal.invariant-loop-edge
invariant-loop-edge g l =
    all_of (map (made_at l.made) (sources (take l.edge-index l.edges))) ≡ Some (map arc_value l.ins.items)
