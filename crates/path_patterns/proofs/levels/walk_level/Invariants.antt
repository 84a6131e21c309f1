use Rattle.std.proofs.Common.{◌≡◌}
use Rattle.path_patterns.proofs.Progress.{LevelWalk}
use Rattle.path_patterns.proofs.levels.walk_level.Given as goal

abbrev pub invariant-loop-dir : goal.invariant-loop-dir
invariant-loop-dir g l =
    LevelWalk l.parts l.level l.fn.found.items (g.D.Directories.held l.fn.dirs) (g.D.Directories.held l.dirs)
    (g.D.Directories.faults l.fn.dirs) (g.D.Directories.faults l.dirs) l.dir-index l.found.items l.next.items
    × (g.D.Directories.kept l.dirs ≡ g.D.Directories.kept l.fn.dirs) × g.D.Directories.IsReady l.dirs
