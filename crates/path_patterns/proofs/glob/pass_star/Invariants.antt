use Rattle.std.proofs.Common.{ℕ, List, Bool}
use Rattle.path_patterns.specs.Globs.{star, RowOf}
use Rattle.path_patterns.proofs.Rows.{RowFrom}
use Rattle.path_patterns.proofs.glob.pass_star.Given as goal

-- from the counter on, the row is that of the `*`
abbrev pub invariant-loop-i : goal.invariant-loop-i
invariant-loop-i l =
    (passes : List ℕ → Bool) → RowOf passes l.name l.initial.row → RowFrom passes (star passes) l.name l.row l.i
