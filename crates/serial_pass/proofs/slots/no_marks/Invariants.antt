use Rattle.std.proofs.Common.{◌≡◌, replicate, false}
use Rattle.serial_pass.proofs.slots.no_marks.Given as goal

abbrev pub invariant-loop-slot : goal.invariant-loop-slot
invariant-loop-slot l = l.marks.items ≡ replicate l._slot false
