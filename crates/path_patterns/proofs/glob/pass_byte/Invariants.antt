use Rattle.std.proofs.Common.{ℕ, List, Bool}
use Rattle.path_patterns.specs.Globs.{next, RowOf}
use Rattle.path_patterns.proofs.Rows.{RowFrom}
use Rattle.path_patterns.proofs.glob.pass_byte.Given as goal

-- before the counter, the row is that of the byte
abbrev pub invariant-loop-i : goal.invariant-loop-i
invariant-loop-i l =
    (passes : List ℕ → Bool) → RowOf passes l.name l.initial.row → RowFrom (next l.byte passes) passes l.name l.row l.i
