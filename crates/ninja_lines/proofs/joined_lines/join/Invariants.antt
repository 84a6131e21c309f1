use Rattle.std.proofs.Common.{◌≡◌, ◌+◌, ◌-◌, ◌<◌, ◌≤◌, length, drop}
use Rattle.ninja_lines.specs.Meaning.{joined_from, glue}
use Rattle.ninja_lines.specs.Shown.{texts}
use Rattle.ninja_lines.proofs.joined_lines.join.Given as goal

-- what was joined so far stands before the joined line that begins here
abbrev pub invariant-loop-at : goal.invariant-loop-at
invariant-loop-at l = record {
  within : l.at ≤ length l.lines;
  behind : l.first < l.at;
  same : joined_from (l.first + 1) (drop l.first (texts l.lines))
      ≡ glue (l.first + 1) l.text (joined_from (l.at + 1) (drop l.at (texts l.lines)));
}

abbrev pub decreases-loop-at : goal.decreases-loop-at
decreases-loop-at l = length l.lines - l.at
