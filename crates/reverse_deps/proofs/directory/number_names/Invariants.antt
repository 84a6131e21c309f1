use Rattle.std.proofs.Common.{take}
use Rattle.bp_names.specs.Meaning.{NumbersFirst}
use Rattle.reverse_deps.specs.Resolved.{names_by_number}
use Rattle.reverse_deps.proofs.directory.number_names.Given as goal

-- the modules so far
abbrev pub invariant-loop-number : goal.invariant-loop-number
invariant-loop-number l = NumbersFirst (names_by_number (take l.number l.mods)) l.table
