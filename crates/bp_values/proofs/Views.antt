-- What the views of a value and of an entry are, one layer at a time.
use Rattle.std.proofs.Common.{◌≡◌, ap}
use Rattle.bp_values.specs.Values.{Meaning, MapEntry, meaning, map_entry_of, value_step, map_entry_step}
use Rattle.bp_values.specs.declared.value.Entry.{Entry, out-Entry}
use Rattle.bp_values.specs.declared.value.Value.TheFolds.{fold_out-Entry}

pub entry_out : (e : Entry)
    → map_entry_of e ≡ record { name = (out-Entry e).name; at = (out-Entry e).at; value = meaning (out-Entry e).value }
entry_out = fold_out-Entry Meaning MapEntry value_step map_entry_step

pub name_out : (e : Entry) → (map_entry_of e).name ≡ (out-Entry e).name
name_out e = ap (λ f. f.name) (entry_out e)

pub value_out : (e : Entry) → (map_entry_of e).value ≡ meaning (out-Entry e).value
value_out e = ap (λ f. f.value) (entry_out e)
