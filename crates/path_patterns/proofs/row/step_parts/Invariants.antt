use Rattle.std.proofs.Common.{◌≡◌, ◌++◌, drop}
use Rattle.path_patterns.specs.Parts.{step_parts}
use Rattle.path_patterns.specs.Rows.{rests_of}
use Rattle.path_patterns.proofs.row.step_parts.Given as goal

-- what is put so far, with what the components to come leave, is all
abbrev pub invariant-loop-at : goal.invariant-loop-at
invariant-loop-at l =
    rests_of l.parts l.row.items ++ step_parts (drop l.at l.parts) l.name
    ≡ rests_of l.parts l.initial.row.items ++ step_parts (drop l.from l.parts) l.name
