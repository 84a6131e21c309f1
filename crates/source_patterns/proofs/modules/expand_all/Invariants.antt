use Rattle.std.proofs.Common.{◌≡◌, ◌≤◌, length}
use Rattle.std.specs.Prelude.{IfSome}
use Rattle.source_patterns.specs.Expansion.{ModuleMeans}
use Rattle.source_patterns.specs.Walked.{ModuleWalks}
use Rattle.source_patterns.proofs.InPlace.{Done}
use Rattle.source_patterns.proofs.modules.expand_all.Given as goal

abbrev pub invariant-loop-index : goal.invariant-loop-index
invariant-loop-index g l =
    IfSome (g.D.Directories.held l.fn.dirs)
    (λ held. Done (ModuleMeans held) (ModuleWalks held) l.fn.mods.items l.index l.mods.items)
    × (length l.mods.items ≡ length l.fn.mods.items)
    × (g.D.Directories.held l.dirs ≡ g.D.Directories.held l.fn.dirs)
    × (g.D.Directories.faults l.fn.dirs ≤ g.D.Directories.faults l.dirs)
    × (g.D.Directories.kept l.dirs ≡ g.D.Directories.kept l.fn.dirs)
    × g.D.Directories.IsReady l.dirs
