-- No public contract speaks of it: where files in file order are cut, so that those behind inherit what they are to
-- inherit.
use Rattle.std.specs.Prelude.{◌≡◌, ℕ, ◌-◌, ◌<◌, true, false, List, [], length, map, slice_index_or}
use Rattle.bp_load.specs.declared.parsed.Parsed.{Parsed}
use Rattle.bp_load.specs.Directories.{is_above}
use Rattle.bp_load.specs.Trees.{placed_of}

-- The directory of each file, in the order of the files.
abbrev pub directories_of : List Parsed → List (List (List ℕ))
directories_of files = map (λ f. f.directory) (map placed_of files)

-- Each of so many first directories is above the last, and so above all behind it.
abbrev pub IsTrunk : List (List (List ℕ)) → ℕ → Type 0
IsTrunk all count =
    (i : ℕ) → i < count → is_above (slice_index_or all i []) (slice_index_or all (length all - 1) []) ≡ true

-- A branch begins: no directory in front is above the one at the place, and so none is above one behind it.
abbrev pub IsBranch : List (List (List ℕ)) → ℕ → Type 0
IsBranch all at = (i : ℕ) → i < at → is_above (slice_index_or all i []) (slice_index_or all at []) ≡ false
