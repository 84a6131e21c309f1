use Rattle.std.proofs.Common.{◌+◌, ◌*◌, map}
use Rattle.bp_values.specs.Values.{meaning, map_entry_of, map_entries_then, no_map_entry}
use Rattle.bp_values.specs.Depths.{depth, depth_of_entries}
use Rattle.bp_values.specs.IndexTable.{found_index}
use Rattle.bp_values.proofs.MapSums.{SumsLeft}
use Rattle.bp_values.proofs.map_sum.+map_sums.Given as goal

abbrev pub decreases-add_to : goal.decreases-add_to
decreases-add_to l = 4 * depth (meaning l.other) + 3

abbrev pub decreases-MapSum::add : goal.decreases-MapSum::add
decreases-MapSum::add l = 4 * depth (meaning l.other) + 2

abbrev pub decreases-add_indexed : goal.decreases-add_indexed
decreases-add_indexed l =
    4 * (1 + depth_of_entries (map_entries_then (map map_entry_of l.second.items) no_map_entry)) + 1

abbrev pub decreases-add_at : goal.decreases-add_at
decreases-add_at l = 4 * depth (meaning l.other) + 4

abbrev pub invariant-add_indexed-loop-index : goal.invariant-add_indexed-loop-index
invariant-add_indexed-loop-index l =
    SumsLeft l.at (found_index l.names) (map map_entry_of l.fn.first.items)
    (map map_entry_of l.fn.second.items) l.entries.items l.below l.index-iterator
