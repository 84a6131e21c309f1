-- The least reach of some names, by which the nearest are found.
use Rattle.std.specs.Prelude.{ℕ, min, Bool, ◌&&◌, nat_lt, nat_le, List, [], ◌∷◌}
use Rattle.near_names.specs.Nearest.{reach}

-- The least reach of some names, and 4 where there is none.
abbrev pub least_reach : List ℕ → List (List ℕ) → ℕ
least_reach word [] = 4
least_reach word (name ∷ names) = min (reach word name) (least_reach word names)

-- A name is near, and no farther than this.
abbrev pub is_within : List ℕ → ℕ → List ℕ → Bool
is_within word least name = nat_lt (reach word name) 4 && nat_le (reach word name) least
