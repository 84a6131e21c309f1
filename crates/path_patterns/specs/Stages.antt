-- The directories of the code as those on the way. No public contract speaks of it.
use Rattle.std.specs.Prelude.{ℕ, List, map}
use Rattle.path_patterns.specs.declared.walk.OnWay.{OnWay}
use Rattle.path_patterns.specs.Rows.{rests_of}
use Rattle.path_patterns.specs.Ways.{Way}

-- One of them.
abbrev pub way_of : List (List ℕ) → OnWay → Way
way_of parts dir = record { path = dir.path; clear = dir.clear; rests = rests_of parts dir.row.items }

-- All of them.
abbrev pub ways_of : List (List ℕ) → List OnWay → List Way
ways_of parts dirs = map (way_of parts) dirs
