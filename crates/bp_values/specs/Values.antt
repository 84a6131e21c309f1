-- Values without where they lie in memory. Two values of the code are equal where these are.
use Rattle.std.specs.Prelude.{ℕ, ℤ, Bool, List, [], ◌∷◌}
use Rattle.bp_faults.specs.declared.place.Place.{Place}
use Rattle.bp_faults.specs.declared.place.Item.{Item}
use Rattle.bp_values.specs.declared.value.Value.{Value}
use Rattle.bp_values.specs.declared.value.Value.TheOpen.{Value-F, Entry-F}
use Rattle.bp_values.specs.declared.value.Value.TheOpen as layer
use Rattle.bp_values.specs.declared.value.Entry.{Entry}
use Rattle.bp_values.specs.declared.value.Value.TheFolds.{fold-Value, fold-Entry}

mutual
  -- A value is a boolean, an integer, a string, a list of strings, or a map of entries in order.
  pub data Meaning : Type 0 where
    Truth : Bool → Meaning
    Number : ℤ → Meaning
    Str : List ℕ → Meaning
    Items : List Item → Meaning
    Body : MapEntries → Meaning

  -- The entries of a map stand in order, each with its name, the name's place, and its value.
  pub data MapEntries : Type 0 where
    no_map_entry : MapEntries
    map_entry_and : List ℕ → Place → Meaning → MapEntries → MapEntries

-- One entry of a map: its name, the name's place, and its value.
pub record MapEntry : Type 0 where
  pub name : List ℕ
  pub at : Place
  pub value : Meaning

-- These entries, and then others.
abbrev pub map_entries_then : List MapEntry → MapEntries → MapEntries
map_entries_then [] more = more
map_entries_then (f ∷ fs) more = map_entry_and f.name f.at f.value (map_entries_then fs more)

-- The entries as a list.
abbrev pub map_entries_of : MapEntries → List MapEntry
map_entries_of no_map_entry = []
map_entries_of (map_entry_and name at value more) =
    (record { name = name; at = at; value = value }) ∷ map_entries_of more

-- The map of these entries.
abbrev pub body : List MapEntry → Meaning
body fs = Body (map_entries_then fs no_map_entry)

-- One layer of a value of the code, with what each part means in its place.
abbrev pub value_step : Value-F Meaning MapEntry → Meaning
value_step (layer.Bool b) = Truth b
value_step (layer.Int n) = Number n
value_step (layer.Str text) = Str text
value_step (layer.Strs items) = Items items.items
value_step (layer.Map entries) = Body (map_entries_then entries.items no_map_entry)

-- One layer of an entry of the code.
abbrev pub map_entry_step : Entry-F Meaning MapEntry → MapEntry
map_entry_step e = record { name = e.name; at = e.at; value = e.value }

-- What a value of the code means.
abbrev pub meaning : Value → Meaning
meaning = fold-Value Meaning MapEntry value_step map_entry_step

-- What an entry of the code means.
abbrev pub map_entry_of : Entry → MapEntry
map_entry_of = fold-Entry Meaning MapEntry value_step map_entry_step
