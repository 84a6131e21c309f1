use Rattle.std.proofs.Common.{◌≡◌, drop}
use Rattle.path_patterns.specs.Parts.{is_done}
use Rattle.path_patterns.specs.Rows.{rests_of}
use Rattle.path_patterns.proofs.row.is_done.Given as goal

-- the row is done where the places to come are
abbrev pub invariant-loop-place : goal.invariant-loop-place
invariant-loop-place l =
    is_done (rests_of l.parts l.row) ≡ is_done (rests_of l.parts (drop l.place-index l.row))
