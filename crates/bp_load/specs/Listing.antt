-- No public contract speaks of it: how a list is read, by a map from directories to paths that takes line after line.
use Rattle.std.specs.Prelude.{ℕ, List, length, nat_le, codes, if◌then◌else◌, Result, Ok, Err}
use Rattle.std.specs.BTreeMap.{insert_entry}
use Rattle.bp_faults.specs.declared.fault.Fault.{Fault}
use Rattle.bp_faults.specs.declared.kind.FaultKind.TheVariants.{BadList, TooMany}
use Rattle.bp_faults.specs.declared.limits.TheConstants.{MOST_FILES}
use Rattle.bp_faults.specs.Faults.{fault_on}
use Rattle.bp_load.specs.Directories.{directories, directory_cmp}
use Rattle.bp_load.specs.ListFile.{is_blank, without_dots, is_listed, line_place}

-- A map from directories to paths, in file order.
abbrev pub Entries : Type 0
Entries = List (List (List ℕ) × List ℕ)

-- A map has no more paths than the limit.
abbrev pub counted_entries : ℕ → Entries → Result Entries Fault
counted_entries at entries = if nat_le (length entries) MOST_FILES then Ok entries
    else Err (fault_on TooMany (line_place at) (codes "files"))

-- A path is put in its directory's place.
abbrev pub with_path : ℕ → Entries → List ℕ → Result Entries Fault
with_path at entries path = counted_entries at (insert_entry directory_cmp entries (directories path) path)

-- The map after the line at an index.
abbrev pub with_line : ℕ → Entries → List ℕ → Result Entries Fault
with_line at entries line =
    if is_blank line then Ok entries
    else if is_listed (without_dots line) then with_path at entries (without_dots line)
    else Err (fault_on BadList (line_place at) line)
