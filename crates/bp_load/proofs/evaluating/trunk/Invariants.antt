use Rattle.std.proofs.Common.{◌≡◌}
use Rattle.bp_load.specs.Branches.{directories_of, IsTrunk}
use Rattle.bp_load.proofs.evaluating.trunk.Given as goal

abbrev pub invariant-files : goal.invariant-files
invariant-files l = (l.count ≡ l.file-index) × IsTrunk (directories_of l.files) l.count
