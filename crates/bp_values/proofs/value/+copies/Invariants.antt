use Rattle.std.proofs.Common.{◌≡◌, map, take}
use Rattle.bp_values.specs.Values.{map_entry_of}
use Rattle.bp_values.proofs.value.+copies.Given as goal

abbrev pub invariant-copy_entries-loop-entry : goal.invariant-copy_entries-loop-entry
invariant-copy_entries-loop-entry l = map map_entry_of l.copy.items ≡ map map_entry_of (take l.entry-index l.entries)
