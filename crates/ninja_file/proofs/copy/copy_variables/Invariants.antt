use Rattle.std.proofs.Common.{◌≡◌, take}
use Rattle.ninja_file.proofs.copy.copy_variables.Given as goal

abbrev pub invariant-loop-key : goal.invariant-loop-key
invariant-loop-key l = l.copies.items ≡ take l.key-index l.variables
