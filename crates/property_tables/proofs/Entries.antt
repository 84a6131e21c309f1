-- One more entry of a map that a loop goes through.
use Rattle.std.proofs.Common.{◌≡◌, ℕ, ◌+◌, ◌<◌, List, length, get_or, map, drop, ap, ◌∙◌, Result, Ok, Err}
use Rattle.bp_faults.specs.declared.fault.Fault.{Fault}
use Rattle.bp_faults.specs.Answers.{Leaves, Refuses, then_do}
use Rattle.bp_faults.specs.declared.refusal.Refusal.{Refusal}
use Rattle.bp_faults.specs.declared.refusal.Refusal.TheVariants.{Bad, OutOfMemory}
use Rattle.bp_values.specs.declared.value.Entry.{Entry}
use Rattle.bp_values.specs.Values.{MapEntry, Meaning, map_entry_of, map_entries_then, no_map_entry, value_step}
use Rattle.bp_values.specs.Values.{map_entry_step}
use Rattle.bp_values.specs.declared.value.Entry.{out-Entry}
use Rattle.bp_values.specs.declared.value.Value.TheFolds.{fold_out-Entry}
use Rattle.bp_faults.proofs.Lists.{drop-here}
use Rattle.property_tables.specs.Meaning.{each_entry}

-- an entry has the name of its view
pub name_of : (e : Entry) → (map_entry_of e).name ≡ (out-Entry e).name
name_of e = ap (λ f. f.name) (fold_out-Entry Meaning MapEntry value_step map_entry_step e)

module _ {A : Type 0} (step : A → MapEntry → Result A Fault) (es : List Entry) (i : ℕ) (e : Entry) (made : A)
    (within : i < length es) (item : e ≡ get_or es i e) where
  rest_after : each_entry step made (map_entries_then (map map_entry_of (drop i es)) no_map_entry) ≡ then_do
      (step made (map_entry_of e)) (λ next.
      each_entry step next (map_entries_then (map map_entry_of (drop (i + 1) es)) no_map_entry))
  rest_after =
      ap (λ fs. each_entry step made (map_entries_then fs no_map_entry))
      (ap (map map_entry_of) (drop-here es i e within item))

  -- the entry is put into what was made
  pub entry_put : (whole : Result A Fault) (next : A)
      → whole ≡ each_entry step made (map_entries_then (map map_entry_of (drop i es)) no_map_entry)
      → step made (map_entry_of e) ≡ Ok next
      → whole ≡ each_entry step next (map_entries_then (map map_entry_of (drop (i + 1) es)) no_map_entry)
  entry_put whole next before put = before ∙ rest_after
      ∙ ap (λ r.
      then_do r (λ made. each_entry step made (map_entries_then (map map_entry_of (drop (i + 1) es)) no_map_entry))) put

  -- a refusal at the entry is one of the whole
  pub entry_refused : (whole : Result A Fault) (refusal : Refusal)
      → whole ≡ each_entry step made (map_entries_then (map map_entry_of (drop i es)) no_map_entry)
      → Refuses refusal (step made (map_entry_of e)) → Refuses refusal whole
  entry_refused whole (Bad fault) before refused = before ∙ rest_after
      ∙ ap (λ r. then_do r
      (λ made. each_entry step made (map_entries_then (map map_entry_of (drop (i + 1) es)) no_map_entry))) refused
  entry_refused whole OutOfMemory before refused = tt

-- a refusal that is handed on
pub handed_on : {V : Type 0} (new : V) (result : Result Unit Refusal) (refusal : Refusal) (meant : Result V Fault)
    → result ≡ Err refusal → Refuses refusal meant → Leaves (λ v. v) new result meant
handed_on new result refusal meant is refused = rw is refused
