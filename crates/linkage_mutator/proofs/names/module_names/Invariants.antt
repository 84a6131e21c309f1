use Rattle.std.proofs.Common.{take}
use Rattle.linkage_mutator.specs.Plugins.{IsNameTable}
use Rattle.linkage_mutator.proofs.names.module_names.Given as goal

-- the modules so far
abbrev pub invariant-loop-number : goal.invariant-loop-number
invariant-loop-number l = IsNameTable (take l.number l.mods) l.table
