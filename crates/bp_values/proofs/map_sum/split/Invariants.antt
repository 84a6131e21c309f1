use Rattle.std.proofs.Common.{◌≡◌, ◌++◌, ℕ, map}
use Rattle.std.specs.Option.{option_or}
use Rattle.bp_values.specs.Values.{map_entry_of}
use Rattle.bp_values.specs.IndexTable.{found_index}
use Rattle.bp_values.specs.Indices.{value_for, unindexed_entries, value_at_index}
use Rattle.bp_values.proofs.map_sum.split.Given as goal

abbrev pub invariant-loop-entry : goal.invariant-loop-entry
invariant-loop-entry l =
    ((i : ℕ)
    → value_for (found_index l.names) i (map map_entry_of l.fn.second.items) ≡ option_or (value_at_index l.shared i)
    (value_for (found_index l.names) i (map map_entry_of l.entry-iterator.rest.items)))
    × (unindexed_entries (found_index l.names) (map map_entry_of l.fn.second.items)
    ≡ map map_entry_of l.others.items
    ++ unindexed_entries (found_index l.names) (map map_entry_of l.entry-iterator.rest.items))
