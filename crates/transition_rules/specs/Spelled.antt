-- Variations by their spelling.
use Rattle.std.specs.Prelude.{◌<◌, ◌^◌, Bool, List, [], ◌∷◌, if◌then◌else◌, ⊤}
use Rattle.std.specs.Ordering.{nat_cmp, is_lt}
use Rattle.std.specs.Cmp.Lexicographic.{slice_cmp}
use Rattle.graph_nodes.specs.declared.variation.Variation.{Variation}
use Rattle.graph_nodes.specs.declared.variation.Variation.TheVariants.{PerSource}
use Rattle.graph_nodes.specs.Names.{spelling}

-- The spelling of v stands before that of w.
abbrev pub is_spelled_before : Variation → Variation → Bool
is_spelled_before v w = is_lt (slice_cmp nat_cmp (spelling v) (spelling w))

-- A list with one variation more, before the first whose spelling stands after its own.
abbrev pub list_with : Variation → List Variation → List Variation
list_with w [] = w ∷ []
list_with w (x ∷ xs) = if is_spelled_before w x then w ∷ x ∷ xs else x ∷ list_with w xs

-- The number of a source fits 64 bits, as all do that a program holds.
abbrev pub FitsNumber : Variation → Type 0
FitsNumber (PerSource source) = source < 2 ^ 64
FitsNumber variation = ⊤
