use Rattle.std.proofs.Common.{◌≡◌, map, drop}
use Rattle.bp_values.specs.Values.{map_entry_of, map_entries_then, no_map_entry}
use Rattle.property_tables.specs.Meaning.{each_entry, module_entry}
use Rattle.property_tables.proofs.module_entries.put_entries.Given as goal

abbrev pub invariant-entries : goal.invariant-entries
invariant-entries l =
    each_entry (module_entry l.dir l.kind) l.fn.props (map_entries_then (map map_entry_of l.entries) no_map_entry)
    ≡ each_entry (module_entry l.dir l.kind) l.props
    (map_entries_then (map map_entry_of (drop l.entry-index l.entries)) no_map_entry)
