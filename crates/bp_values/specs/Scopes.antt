-- Scopes as lists of pairs.
use Rattle.std.specs.Prelude.{◌≡◌, ◌≤◌, ℕ, List, map, Option, Some, take, length}
use Rattle.std.specs.Str.{bytes_eq}
use Rattle.std.specs.Map.{lookup}
use Rattle.bp_values.specs.declared.scope.Scope.{Scope}
use Rattle.bp_values.specs.declared.value.Value.{Value}
use Rattle.bp_values.specs.Values.{Meaning, meaning}

-- Names and what their values mean, in the order in which the names were first set.
abbrev pub Pairs : Type 0
Pairs = List (List ℕ × Meaning)

-- A name and what its value means.
abbrev pub pair_of : List ℕ × Value → List ℕ × Meaning
pair_of p = (p.0, meaning p.1)

-- How contracts see a scope: what is set above, and then what is set below.
abbrev pub pairs_of : Scope → Pairs
pairs_of s = map pair_of s.values.entries

-- The value that a name has, if it has one.
abbrev pub value_in : Pairs → List ℕ → Option Meaning
value_in scope name = lookup (bytes_eq name) scope

-- How many names a scope has.
abbrev pub count_of : Scope → ℕ
count_of s = length (pairs_of s)

-- The names that were set first, so many of them, which are those of the outermost files.
abbrev pub outer_pairs : ℕ → Scope → Pairs
outer_pairs count s = take count (pairs_of s)

-- The names that were set first, so many of them, are those of another scope.
abbrev pub HasOuter : ℕ → Scope → Scope → Type 0
HasOuter count other s = (n : ℕ) → n ≤ count → outer_pairs n s ≡ outer_pairs n other

-- Each name with a value in the first has the same value in the second.
abbrev pub Keeps : Pairs → Pairs → Type 0
Keeps before after = (name : List ℕ) (v : Meaning) → value_in before name ≡ Some v → value_in after name ≡ Some v
