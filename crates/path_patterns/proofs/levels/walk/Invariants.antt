use Rattle.std.proofs.Common.{◌≡◌}
use Rattle.path_patterns.specs.Levels.{tallest}
use Rattle.path_patterns.specs.Stages.{way_of, ways_of}
use Rattle.path_patterns.proofs.Progress.{AllWalk}
use Rattle.path_patterns.proofs.levels.walk.Given as goal

abbrev pub invariant-levels : goal.invariant-levels
invariant-levels g l =
    AllWalk l.parts (way_of l.parts l.fn.first) (g.D.Directories.held l.fn.dirs) (g.D.Directories.held l.dirs)
    (g.D.Directories.faults l.fn.dirs) (g.D.Directories.faults l.dirs) l.found.items l.level.items
    × (g.D.Directories.kept l.dirs ≡ g.D.Directories.kept l.fn.dirs) × g.D.Directories.IsReady l.dirs

-- less of the pattern is left from level to level
abbrev pub decreases-levels : goal.decreases-levels
decreases-levels g l = tallest (ways_of l.parts l.level.items)
