use Rattle.std.proofs.Common.{rules, ◌≡◌, map, Err}
use Rattle.bp_values.specs.Values.{map_entry_of, map_entries_then, no_map_entry}
use Rattle.property_tables.specs.Meaning.{each_entry, module_entry}
use Rattle.property_tables.proofs.Entries.{entry_put, entry_refused, handed_on}
use Rattle.property_tables.proofs.module_entries.put_entries.Goals as goal

pub entries-preserved : goal.entries-preserved
entries-preserved c =
    entry_put (module_entry c.args.dir.now c.args.kind) c.args.entries.now c.entries.entry-index
    c.entry-item.result c.entries.props c.entries-test.true c.entry-item.is _ c.module_entry.new.props
    c.entries.invariant c.in_ok-module_entry.ensures

pub returns-in_err-module_entry : goal.returns-in_err-module_entry
returns-in_err-module_entry c =
    let is : c.from_residual.result ≡ Err c.in_err-module_entry.field-0.0 = search rules in
    handed_on c.module_entry.new.props c.from_residual.result c.in_err-module_entry.field-0.0 _ is
    (entry_refused (module_entry c.args.dir.now c.args.kind) c.args.entries.now c.entries.entry-index
    c.entry-item.result c.entries.props c.entries-test.true c.entry-item.is
    (each_entry (module_entry c.args.dir.now c.args.kind) c.args.props.now
    (map_entries_then (map map_entry_of c.args.entries.now) no_map_entry)) c.in_err-module_entry.field-0.0
    c.entries.invariant c.in_err-module_entry.ensures)
