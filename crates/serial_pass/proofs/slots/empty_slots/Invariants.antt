use Rattle.std.proofs.Common.{◌≡◌, replicate, None}
use Rattle.serial_pass.proofs.slots.empty_slots.Given as goal

abbrev pub invariant-loop-n : goal.invariant-loop-n
invariant-loop-n g l = l.slots.items ≡ replicate l._n None
