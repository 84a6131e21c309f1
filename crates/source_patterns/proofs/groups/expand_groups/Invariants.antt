use Rattle.std.proofs.Common.{◌≡◌, ◌≤◌, length}
use Rattle.std.specs.Prelude.{IfSome}
use Rattle.source_patterns.specs.Expansion.{KeyedGroupMeans}
use Rattle.source_patterns.specs.Walked.{GroupWalks}
use Rattle.source_patterns.proofs.InPlace.{Done}
use Rattle.source_patterns.proofs.groups.expand_groups.Given as goal

abbrev pub invariant-loop-index : goal.invariant-loop-index
invariant-loop-index g l =
    IfSome (g.D.Directories.held l.fn.dirs)
    (λ held. Done (KeyedGroupMeans held l.dir) (λ e. GroupWalks held l.dir e.1) l.fn.groups l.index l.groups)
    × (length l.groups ≡ length l.fn.groups)
    × (g.D.Directories.held l.dirs ≡ g.D.Directories.held l.fn.dirs)
    × (g.D.Directories.faults l.fn.dirs ≤ g.D.Directories.faults l.dirs)
    × (g.D.Directories.kept l.dirs ≡ g.D.Directories.kept l.fn.dirs)
    × g.D.Directories.IsReady l.dirs
