-- Path items: which are refused, and what path an item stands for below a directory.
-- Source: Blueprint package documentation, paths are relative to the module's directory; this project's profile.
use Rattle.std.specs.Prelude.{ℕ, Bool, false, List, [], ◌∷◌, ◌++◌, ◌||◌, ◌==◌, codes, filter}
use Rattle.std.specs.Str.{bytes_eq}
use Rattle.std.specs.List.{list_any, slice_split, join_with_byte}
use Rattle.bp_faults.specs.Characters.{is_barred_in_paths}
use Rattle.bp_faults.specs.Paths.{is_component}

-- No path item holds a control character, `|` or `*`.
abbrev pub is_barred : ℕ → Bool
is_barred c = is_barred_in_paths c || (c == 42)

-- The parts of a text are what is between its slashes.
abbrev pub parts : List ℕ → List (List ℕ)
parts text = slice_split (λ c. c == 47) text

-- An absolute path begins at the root of the file system.
abbrev pub is_absolute : List ℕ → Bool
is_absolute [] = false
is_absolute (c ∷ text) = c == 47

-- A path item is refused where it begins with `/`, has a part `..`, or holds what no path may hold.
abbrev pub is_refused : List ℕ → Bool
is_refused text =
    is_absolute text || (list_any (λ part. bytes_eq part (codes "..")) (parts text) || list_any is_barred text)

-- The components of a path item are its parts, but for `.` and the empty ones.
abbrev pub components : List ℕ → List (List ℕ)
components text = filter is_component (parts text)

-- The path of an item below a directory has the components of both.
abbrev pub path_below : List ℕ → List ℕ → List ℕ
path_below dir text = join_with_byte 47 (components dir ++ components text)
