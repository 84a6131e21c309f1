use Rattle.std.proofs.Common.{drop}
use Rattle.path_patterns.specs.Globs.{glob, RowOf}
use Rattle.path_patterns.proofs.glob.pass.Given as goal

-- the row is that of the pattern from the counter on
abbrev pub invariant-loop-j : goal.invariant-loop-j
invariant-loop-j l = RowOf (glob (drop l.j l.pattern)) l.name l.row
