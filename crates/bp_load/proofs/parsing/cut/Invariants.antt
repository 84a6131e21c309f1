use Rattle.std.proofs.Common.{◌≡◌, ◌≤◌, ◌*◌}
use Rattle.bp_faults.specs.declared.limits.TheConstants.{LARGEST_FILE}
use Rattle.bp_load.proofs.parsing.cut.Given as goal

abbrev pub invariant-files : goal.invariant-files
invariant-files l = (l.bytes ≤ l.file-index * LARGEST_FILE) × (l.count ≡ l.file-index)
