use Rattle.std.proofs.Common.{map, take}
use Rattle.bp_values.specs.Values.{map_entry_of}
use Rattle.bp_values.specs.IndexTable.{found_index}
use Rattle.bp_values.specs.Indices.{IsIndexed, names_in}
use Rattle.bp_values.proofs.map_sum.with_names.Given as goal

abbrev pub invariant-loop-index : goal.invariant-loop-index
invariant-loop-index l = IsIndexed (found_index l.all) (names_in (map map_entry_of (take l.index l.entries)))
