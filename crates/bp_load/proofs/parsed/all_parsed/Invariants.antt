use Rattle.std.proofs.Common.{◌≡◌, ◌+◌, map, take}
use Rattle.bp_faults.specs.Phases.{Each}
use Rattle.bp_load.specs.Trees.{SourceFileMeans, placed_of, sources_given}
use Rattle.bp_load.proofs.parsed.all_parsed.Given as goal

abbrev pub invariant-files : goal.invariant-files
invariant-files l =
    (l.next ≡ l.number + l.file-index)
    × Each SourceFileMeans l.number (take l.file-index (sources_given l.files)) (map placed_of l.all.items)
