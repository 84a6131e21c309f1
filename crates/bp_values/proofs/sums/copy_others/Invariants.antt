use Rattle.std.proofs.Common.{◌≡◌, map, drop, ◌++◌}
use Rattle.bp_values.specs.Values.{map_entry_of}
use Rattle.bp_values.specs.Inside.{not_among}
use Rattle.bp_values.proofs.sums.copy_others.Given as goal

abbrev pub invariant-loop-entry : goal.invariant-loop-entry
invariant-loop-entry l =
    not_among l.met (map map_entry_of l.others)
    ≡ map map_entry_of l.left.items ++ not_among l.met (map map_entry_of (drop l.entry-index l.others))
