use Rattle.std.proofs.Common.{◌≡◌, ◌++◌, length}
use Rattle.ninja_lines.specs.Meaning.{lines}
use Rattle.ninja_lines.specs.Shown.{texts}
use Rattle.ninja_lines.proofs.joined_lines.lines.Given as goal

-- the lines that are found and those of what is left are all lines
abbrev pub invariant-loop-rest : goal.invariant-loop-rest
invariant-loop-rest l = texts l.found.items ++ lines l.rest ≡ lines l.text

abbrev pub decreases-loop-rest : goal.decreases-loop-rest
decreases-loop-rest l = length l.rest
