use Rattle.std.proofs.Common.{◌≡◌, drop}
use Rattle.path_patterns.specs.Parts.{has_rest}
use Rattle.path_patterns.specs.Rows.{rests_of}
use Rattle.path_patterns.proofs.row.goes_on.Given as goal

-- something is left behind the row where something is left behind the places to come
abbrev pub invariant-loop-place : goal.invariant-loop-place
invariant-loop-place l =
    has_rest (rests_of l.parts l.row) ≡ has_rest (rests_of l.parts (drop l.place-index l.row))
