use Rattle.std.proofs.Common.{◌≡◌, ◌+◌, ◌≤◌, length}
use Rattle.std.specs.Prelude.{IfSome}
use Rattle.source_patterns.proofs.Turns.{Far}
use Rattle.source_patterns.proofs.items.expanded.Given as goal

abbrev pub invariant-sources : goal.invariant-sources
invariant-sources g l =
    IfSome (g.D.Directories.held l.fn.dirs) (λ held. Far held l.dir l.sources l.source-index l.items)
    × (l.left + l.source-index ≡ length l.sources)
    × (g.D.Directories.held l.dirs ≡ g.D.Directories.held l.fn.dirs)
    × (g.D.Directories.faults l.fn.dirs ≤ g.D.Directories.faults l.dirs)
    × (g.D.Directories.kept l.dirs ≡ g.D.Directories.kept l.fn.dirs)
    × g.D.Directories.IsReady l.dirs
