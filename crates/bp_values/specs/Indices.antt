-- The indices of the names of a map, and sums at those indices. No public contract speaks of it.
use Rattle.std.specs.Prelude.{◌≡◌, ℕ, zero, suc, ◌==◌, ⊤, Bool, false, not, is_some, List, [], ◌∷◌, map, filter, Option}
use Rattle.std.specs.Prelude.{None, Some, option_map, Result, Ok, if◌then◌else◌}
use Rattle.std.specs.Ordering.{nat_cmp}
use Rattle.std.specs.Str.{bytes_eq}
use Rattle.std.specs.BTreeMap.{BTreeMap, get}
use Rattle.bp_faults.specs.declared.place.Place.{Place}
use Rattle.bp_faults.specs.declared.fault.Fault.{Fault}
use Rattle.bp_faults.specs.Answers.{then_do}
use Rattle.bp_values.specs.declared.value.Value.{Value}
use Rattle.bp_values.specs.declared.index_table.IndexTable.{IndexTable}
use Rattle.bp_values.specs.Values.{Meaning, meaning, MapEntry}
use Rattle.bp_values.specs.Sums.{sum, map_entry_then, combined_value}
use Rattle.bp_values.specs.IndexTable.{found_index}

-- The names of the entries, in their order.
abbrev pub names_in : List MapEntry → List (List ℕ)
names_in fs = map (λ f. f.name) fs

-- The index of the first name that is this one.
abbrev pub index_in : List (List ℕ) → List ℕ → Option ℕ
index_in [] name = None
index_in (first ∷ names) name = if bytes_eq name first then Some 0 else option_map suc (index_in names name)

-- No two of the names are equal.
abbrev pub AreApart : List (List ℕ) → Type 0
AreApart [] = ⊤
AreApart (first ∷ names) = (index_in names first ≡ None) × AreApart names

-- What a search for a name finds: its index, or nothing.
abbrev pub Search : Type 0
Search = List ℕ → Option ℕ

-- The search finds the index of each name, and no two of the names are equal.
pub record IsIndexed (search : Search) (names : List (List ℕ)) : Type 0 where
  pub indices : (name : List ℕ) → search name ≡ index_in names name
  pub apart : AreApart names

-- The table, if there is one, finds the index of each name.
abbrev pub Indices : Option IndexTable → List (List ℕ) → Type 0
Indices None names = ⊤
Indices (Some table) names = IsIndexed (found_index table) names

-- The index is that one.
abbrev pub is_index : Option ℕ → ℕ → Bool
is_index None index = false
is_index (Some found) index = found == index

-- The value of the first entry whose name has that index.
abbrev pub value_for : Search → ℕ → List MapEntry → Option Meaning
value_for search index [] = None
value_for search index (f ∷ fs) = if is_index (search f.name) index then Some f.value else value_for search index fs

-- The entries whose names have no index.
abbrev pub unindexed_entries : Search → List MapEntry → List MapEntry
unindexed_entries search fs = filter (λ f. not (is_some (search f.name))) fs

-- The value that a map of values has for an index.
abbrev pub value_at_index : BTreeMap ℕ Value → ℕ → Option Meaning
value_at_index values index = option_map meaning (get nat_cmp values index)

-- The entries, each with the sum where there is a value for its index.
abbrev pub sum_at_each : Place → List MapEntry → (ℕ → Option Meaning) → Result (List MapEntry) Fault
sum_at_each at [] others = Ok []
sum_at_each at (f ∷ fs) others =
    map_entry_then f.name f.at (combined_value f.value (sum at f.value) (others 0))
    (sum_at_each at fs (λ i. others (suc i)))

-- The entries, that at one index with its sum.
abbrev pub sum_at : Place → List MapEntry → ℕ → Meaning → Result (List MapEntry) Fault
sum_at at [] index other = Ok []
sum_at at (f ∷ fs) zero other =
    then_do (sum at f.value other) (λ v. Ok ((record { name = f.name; at = f.at; value = v }) ∷ fs))
sum_at at (f ∷ fs) (suc index) other = then_do (sum_at at fs index other) (λ gs. Ok (f ∷ gs))
