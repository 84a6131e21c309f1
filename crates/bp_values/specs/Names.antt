-- The names of the maps of a value, and that those of one map differ.
use Rattle.std.specs.Prelude.{ℕ, ⊤, List, [], ◌∷◌}
use Rattle.std.specs.List.{All}
use Rattle.bp_parser.specs.Names.{AreDistinct}
use Rattle.bp_values.specs.Values.{Meaning, Truth, Number, Str, Items, Body, MapEntries, no_map_entry, map_entry_and}
use Rattle.bp_values.specs.Values.{body}
use Rattle.bp_values.specs.Scopes.{Pairs}
use Rattle.bp_values.specs.Meaning.{Raw}

-- The names of a map's entries, in their order.
abbrev pub map_entry_names : MapEntries → List (List ℕ)
map_entry_names no_map_entry = []
map_entry_names (map_entry_and name at value more) = name ∷ map_entry_names more

abbrev mutual
  -- The names of each map in a value differ, all the way down.
  pub HasDistinctNames : Meaning → Type 0
  HasDistinctNames (Truth b) = ⊤
  HasDistinctNames (Number n) = ⊤
  HasDistinctNames (Str text) = ⊤
  HasDistinctNames (Items items) = ⊤
  HasDistinctNames (Body entries) = AreDistinct (map_entry_names entries) × EntriesHaveDistinctNames entries

  -- The names of each map in the values of entries differ, all the way down.
  pub EntriesHaveDistinctNames : MapEntries → Type 0
  EntriesHaveDistinctNames no_map_entry = ⊤
  EntriesHaveDistinctNames (map_entry_and name at value more) = HasDistinctNames value × EntriesHaveDistinctNames more

-- The names of each map in a module differ.
abbrev pub ModuleHasDistinctNames : Raw → Type 0
ModuleHasDistinctNames m = HasDistinctNames (body m.entries)

-- The names of each map in the values of a scope differ.
abbrev pub ScopeHasDistinctNames : Pairs → Type 0
ScopeHasDistinctNames scope = All (λ p. HasDistinctNames p.1) scope
