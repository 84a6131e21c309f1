use Rattle.std.proofs.Common.{◌≡◌, ◌+◌, ◌-◌, ◌≤◌, ◌++◌, map, length, drop}
use Rattle.ninja_lines.specs.Meaning.{joined_from}
use Rattle.ninja_lines.specs.Shown.{texts, shown_line}
use Rattle.ninja_lines.proofs.joined_lines.joined.Given as goal

-- the joined lines that are found and those of what is left are all
abbrev pub invariant-loop-at : goal.invariant-loop-at
invariant-loop-at l = record {
  within : l.at ≤ length l.lines;
  same : map shown_line l.found.items ++ joined_from (l.at + 1) (drop l.at (texts l.lines))
      ≡ joined_from 1 (texts l.lines);
}

abbrev pub decreases-loop-at : goal.decreases-loop-at
decreases-loop-at l = length l.lines - l.at
