use Rattle.std.proofs.Common.{◌≡◌, map}
use Rattle.bp_values.specs.Values.{map_entry_of, map_entries_then, no_map_entry}
use Rattle.bp_values.specs.Sums.{sum_entries}
use Rattle.bp_values.proofs.Unite.{prefixed}
use Rattle.bp_values.proofs.sums.+sums.Given as goal

abbrev pub invariant-sum_each-loop-entry : goal.invariant-sum_each-loop-entry
invariant-sum_each-loop-entry l =
    ((goal.iterator-sum_each-loop-entry).can_next l.entry-iterator)
    × ((goal.iterator-sum_each-loop-entry).is_finite l.entry-iterator)
    × (sum_entries l.at (map_entries_then (map map_entry_of l.fn.first.items) no_map_entry) (map map_entry_of l.second)
    ≡ prefixed (map map_entry_of l.entries.items)
    (sum_entries l.at (map_entries_then (map map_entry_of l.entry-iterator.rest.items) no_map_entry)
    (map map_entry_of l.second)))
