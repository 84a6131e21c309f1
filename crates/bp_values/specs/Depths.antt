-- How deeply maps stand in maps.
use Rattle.std.specs.Prelude.{ℕ, ◌+◌, max, nat_le, List, Result, Ok, Err, if◌then◌else◌}
use Rattle.bp_faults.specs.declared.place.Place.{Place}
use Rattle.bp_faults.specs.declared.fault.Fault.{Fault}
use Rattle.bp_faults.specs.declared.kind.FaultKind.TheVariants.{TooNested}
use Rattle.bp_faults.specs.declared.limits.TheConstants.{DEEPEST_NESTING}
use Rattle.bp_faults.specs.Faults.{fault_at}
use Rattle.bp_values.specs.Values.{Meaning, Truth, Number, Str, Items, Body, MapEntries, no_map_entry, map_entry_and}
use Rattle.bp_values.specs.Values.{MapEntry, body}

abbrev mutual
  -- A map's depth is one more than the greatest depth of its values, and 1 where it has none; another value's is 0.
  pub depth : Meaning → ℕ
  depth (Truth b) = 0
  depth (Number n) = 0
  depth (Str text) = 0
  depth (Items items) = 0
  depth (Body entries) = 1 + depth_of_entries entries

  -- The greatest depth of the values of entries, and 0 where there is none.
  pub depth_of_entries : MapEntries → ℕ
  depth_of_entries no_map_entry = 0
  depth_of_entries (map_entry_and name at value more) = max (depth value) (depth_of_entries more)

-- The entries of a map literal, or the fault of a map that is deeper than the limit.
abbrev pub nested_entries : Place → List MapEntry → Result (List MapEntry) Fault
nested_entries at fs = if nat_le (depth (body fs)) DEEPEST_NESTING then Ok fs else Err (fault_at TooNested at)
