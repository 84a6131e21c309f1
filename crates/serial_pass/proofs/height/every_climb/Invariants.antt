use Rattle.std.proofs.Common.{◌≡◌, map}
use Rattle.std.specs.List.{range_with_len}
use Rattle.serial_pass.specs.Settling.{start_at}
use Rattle.serial_pass.proofs.height.every_climb.Given as goal

abbrev pub invariant-loop-n : goal.invariant-loop-n
invariant-loop-n l = l.path.items ≡ map start_at (range_with_len 0 l.n)
