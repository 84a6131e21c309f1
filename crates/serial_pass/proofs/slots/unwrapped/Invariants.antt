use Rattle.std.proofs.Common.{◌≡◌, map, Some}
use Rattle.serial_pass.proofs.slots.unwrapped.Given as goal

abbrev pub invariant-loop-slot : goal.invariant-loop-slot
invariant-loop-slot g l = map Some l.values.items ≡ l.yielded
