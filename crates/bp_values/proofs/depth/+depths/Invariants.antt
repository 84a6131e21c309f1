use Rattle.std.proofs.Common.{◌≡◌, map, drop}
use Rattle.std.specs.Prelude.{nat_le}
use Rattle.bp_values.specs.Values.{map_entry_of, map_entries_then, no_map_entry}
use Rattle.bp_values.specs.Depths.{depth_of_entries}
use Rattle.bp_values.proofs.depth.+depths.Given as goal

abbrev pub invariant-are_within-entries : goal.invariant-are_within-entries
invariant-are_within-entries l =
    nat_le (depth_of_entries (map_entries_then (map map_entry_of l.entries) no_map_entry)) l.limit
    ≡ nat_le (depth_of_entries (map_entries_then (map map_entry_of (drop l.entry-index l.entries)) no_map_entry))
    l.limit
