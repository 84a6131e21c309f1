use Rattle.std.proofs.Common.{◌≡◌, ◌++◌, drop}
use Rattle.path_patterns.specs.Parts.{step_all}
use Rattle.path_patterns.specs.Rows.{rests_of}
use Rattle.path_patterns.proofs.row.behind.Given as goal

-- what the name reaches so far, with what it reaches from the places to come, is all
abbrev pub invariant-loop-from : goal.invariant-loop-from
invariant-loop-from l =
    rests_of l.parts l.next.items ++ step_all (rests_of l.parts (drop l.from-index l.row)) l.name
    ≡ step_all (rests_of l.parts l.row) l.name
