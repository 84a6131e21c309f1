-- What is known of the indices of a map's names, and of the maps that stand in it. No public contract speaks of it.
use Rattle.std.specs.Prelude.{ℕ, zero, suc, ⊤, List, [], ◌∷◌, Option, None, Some}
use Rattle.std.specs.Ordering.{nat_cmp}
use Rattle.std.specs.BTreeMap.{BTreeMap, get}
use Rattle.bp_values.specs.declared.map_indices.MapIndices.{MapIndices}
use Rattle.bp_values.specs.declared.map_indices.MapIndices.TheOpen.{MapIndices-F}
use Rattle.bp_values.specs.declared.map_indices.MapIndices.TheFolds.{fold-MapIndices}
use Rattle.bp_values.specs.Values.{Meaning, Body, MapEntry, map_entries_of}
use Rattle.bp_values.specs.IndexTable.{found_index}
use Rattle.bp_values.specs.Indices.{Search, IsIndexed, names_in}

-- A way from a value to one that stands in it: an index at each step.
abbrev pub Way : Type 0
Way = List ℕ

-- The value of the entry at an index.
abbrev pub value_there : ℕ → List MapEntry → Option Meaning
value_there index [] = None
value_there zero (f ∷ fs) = Some f.value
value_there (suc index) (f ∷ fs) = value_there index fs

-- The value at an index of a map.
abbrev pub value_below : Option Meaning → ℕ → Option Meaning
value_below (Some (Body entries)) index = value_there index (map_entries_of entries)
value_below _ index = None

-- The value to which a way leads.
abbrev pub value_under : Option Meaning → Way → Option Meaning
value_under value [] = value
value_under value (index ∷ way) = value_under (value_below value index) way

-- The search for names of a map to which a way leads, where it is known.
abbrev pub search_then : Option (Way → Option Search) → Way → Option Search
search_then None way = None
search_then (Some searches) way = searches way

-- One layer of indices, with the searches of each part.
abbrev pub indices_step : MapIndices-F (Way → Option Search) → Way → Option Search
indices_step indices [] = Some (found_index indices.names)
indices_step indices (index ∷ way) = search_then (get nat_cmp indices.below index) way

-- The searches of indices.
abbrev pub search_at : MapIndices → Way → Option Search
search_at = fold-MapIndices (Way → Option Search) indices_step

-- The same, where there may be no indices.
abbrev pub search_of : Option MapIndices → Way → Option Search
search_of None way = None
search_of (Some indices) way = search_at indices way

-- The search, if there is one, finds the index of each name of a map, which the value is.
abbrev pub Finds : Option Search → Option Meaning → Type 0
Finds None value = ⊤
Finds (Some search) (Some (Body entries)) = IsIndexed search (names_in (map_entries_of entries))
Finds (Some search) _ = ⊥

-- The indices are those of a value: so is each search for the map to which its way leads.
abbrev pub IndicesOf : Option MapIndices → Option Meaning → Type 0
IndicesOf indices value = (way : Way) → Finds (search_of indices way) (value_under value way)

-- What is known of the values of the entries is so.
abbrev pub AreKnown : BTreeMap ℕ MapIndices → List MapEntry → Type 0
AreKnown below fs = (index : ℕ) → IndicesOf (get nat_cmp below index) (value_there index fs)
