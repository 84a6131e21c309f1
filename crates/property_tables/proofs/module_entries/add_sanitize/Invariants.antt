use Rattle.std.proofs.Common.{◌≡◌, map, drop}
use Rattle.bp_values.specs.Values.{map_entry_of, map_entries_then, no_map_entry}
use Rattle.property_tables.specs.Meaning.{each_entry, entry_set}
use Rattle.property_tables.specs.Tables.{sanitize_table}
use Rattle.property_values.specs.Fits.{props_set}
use Rattle.property_tables.proofs.module_entries.add_sanitize.Given as goal

abbrev pub invariant-entries : goal.invariant-entries
invariant-entries l =
    each_entry (entry_set props_set sanitize_table l.dir l.prefix) l.fn.props
    (map_entries_then (map map_entry_of l.entries) no_map_entry)
    ≡ each_entry (entry_set props_set sanitize_table l.dir l.prefix) l.props
    (map_entries_then (map map_entry_of (drop l.entry-index l.entries)) no_map_entry)
