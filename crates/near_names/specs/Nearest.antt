-- The known names that are nearest to a word.
use Rattle.std.specs.Prelude.{ℕ, zero, suc, ◌+◌, ◌*◌, min, Bool, ◌&&◌, ◌==◌, nat_lt, nat_le, List, length, take}
use Rattle.std.specs.Prelude.{slice_index, if◌then◌else◌}
use Rattle.std.specs.List.{filter, list_all}
use Rattle.std.specs.Str.{chars}

-- An edit is needed where two characters differ.
abbrev pub difference : ℕ → ℕ → ℕ
difference a b = if a == b then 0 else 1

-- How many edits lead from the first i characters of a word to the first j of another (Levenshtein): the least by
-- inserting the last one of these, by putting it in the place of the last one of those, and by deleting that.
unfoldable pub edits : List ℕ → List ℕ → ℕ → ℕ → ℕ
edits a b zero j = j
edits a b (suc i) zero = suc i
edits a b (suc i) (suc j) =
    min (edits a b (suc i) j + 1)
    (min (edits a b i j + difference (slice_index a i) (slice_index b j)) (edits a b i (suc j) + 1))

-- How many edits lead from a word to another.
abbrev pub distance : List ℕ → List ℕ → ℕ
distance word other = edits (chars word) (chars other) (length (chars word)) (length (chars other))

-- A name is near at one to three edits, which are fewer than half of the word's characters.
abbrev pub is_near_at : ℕ → ℕ → Bool
is_near_at edits count = nat_lt 0 edits && (nat_lt edits 4 && nat_lt (2 * edits) count)

-- A name is near to a word.
abbrev pub is_near : List ℕ → List ℕ → Bool
is_near word name = is_near_at (distance word name) (length (chars word))

-- How far a name is, where all names that aren't near are equally far.
abbrev pub reach : List ℕ → List ℕ → ℕ
reach word name = if is_near word name then distance word name else 4

-- A name is one of the nearest where it is near, and no known name is nearer.
abbrev pub is_nearest : List (List ℕ) → List ℕ → List ℕ → Bool
is_nearest known word name = is_near word name && list_all (λ other. nat_le (reach word name) (reach word other)) known

-- The nearest names, at most three, in the order of the known ones.
abbrev pub nearest_names : List (List ℕ) → List ℕ → List (List ℕ)
nearest_names known word = take 3 (filter (is_nearest known word) known)
