use Rattle.std.proofs.Common.{◌≡◌, ◌≤◌}
use Rattle.bp_load.specs.Branches.{directories_of, IsBranch}
use Rattle.bp_load.proofs.Branches.{IsOpenBranch}
use Rattle.bp_load.proofs.evaluating.cut.Given as goal

abbrev pub invariant-files : goal.invariant-files
invariant-files l =
    (l.at ≡ l.file-index) × (l.best ≤ l.file-index) × IsBranch (directories_of l.files) l.best
    × IsOpenBranch (directories_of l.files) l.branch l.file-index
