-- A row of the code as what is left of the pattern. No public contract speaks of it.
use Rattle.std.specs.Prelude.{ℕ, List, map, drop}
use Rattle.path_patterns.specs.declared.row.Reached.{Reached}
use Rattle.path_patterns.specs.Parts.{Rest}

-- What is left of the components at a place.
abbrev pub rest_of : List (List ℕ) → Reached → Rest
rest_of parts place = (place.skips, drop place.at parts)

-- What is left at the places of a row.
abbrev pub rests_of : List (List ℕ) → List Reached → List Rest
rests_of parts row = map (rest_of parts) row
