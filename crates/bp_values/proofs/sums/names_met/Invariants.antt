use Rattle.std.proofs.Common.{map, take}
use Rattle.bp_values.specs.Values.{map_entry_of}
use Rattle.bp_values.specs.Inside.{HasMet}
use Rattle.bp_values.proofs.sums.names_met.Given as goal

abbrev pub invariant-loop-entry : goal.invariant-loop-entry
invariant-loop-entry l = HasMet l.met l.table (map map_entry_of (take l.entry-index l.entries))
