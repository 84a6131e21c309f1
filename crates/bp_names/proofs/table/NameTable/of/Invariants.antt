use Rattle.std.proofs.Common.{map, take}
use Rattle.bp_names.specs.Meaning.{NumbersFirst}
use Rattle.bp_names.proofs.table.NameTable.of.Given as goal

-- the values so far
abbrev pub invariant-loop-number : goal.invariant-loop-number
invariant-loop-number g l = NumbersFirst (take l.number (map g.T.Named.name l.values)) l.table
