use Rattle.std.proofs.Common.{◌≡◌, ◌++◌, drop}
use Rattle.path_patterns.specs.Ways.{found_at, ways_at}
use Rattle.path_patterns.specs.Stages.{way_of, ways_of}
use Rattle.path_patterns.proofs.walk.visit.Given as goal

-- what the entries so far give, with what those to come give, is all
abbrev pub invariant-loop-entry : goal.invariant-loop-entry
invariant-loop-entry l = record {
  found : l.found.items ++ found_at (way_of l.parts l.dir) (drop l.entry-index l.entries)
      ≡ l.initial.found.items ++ found_at (way_of l.parts l.dir) l.entries;
  ways : ways_of l.parts l.ways.items ++ ways_at (way_of l.parts l.dir) (drop l.entry-index l.entries)
      ≡ ways_of l.parts l.initial.ways.items ++ ways_at (way_of l.parts l.dir) l.entries;
}
