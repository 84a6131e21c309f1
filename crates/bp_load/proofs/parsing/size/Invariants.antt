use Rattle.std.proofs.Common.{◌≡◌, ◌≤◌, ◌*◌, length, take}
use Rattle.std.specs.Prelude.{sum_by}
use Rattle.bp_faults.specs.declared.limits.TheConstants.{LARGEST_FILE}
use Rattle.bp_load.specs.Trees.{Source, sources_given}
use Rattle.bp_load.proofs.parsing.size.Given as goal

abbrev pub invariant-files : goal.invariant-files
invariant-files l =
    (l.bytes ≤ l.file-index * LARGEST_FILE)
    × (l.bytes ≡ sum_by (λ (f : Source). length f.1) (take l.file-index (sources_given l.files)))
