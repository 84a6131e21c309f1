-- Directories of files, and file order.
use Rattle.std.specs.Prelude.{ℕ, ◌-◌, Bool, List, map, length, take}
use Rattle.std.specs.List.{join_with_byte, starts_with}
use Rattle.std.specs.Str.{bytes_eq}
use Rattle.std.specs.List.Sorted.{IsStrictlySortedBy}
use Rattle.std.specs.declared.cmp.Ordering.{Ordering}
use Rattle.std.specs.Ordering.{nat_cmp}
use Rattle.std.specs.Cmp.Lexicographic.{slice_cmp}
use Rattle.property_values.specs.Paths.{parts}

-- The components of the directory of a file: all of its path's but the last.
abbrev pub directories : List ℕ → List (List ℕ)
directories path = take (length (parts path) - 1) (parts path)

-- The directory of a file, as a path.
abbrev pub directory_of : List ℕ → List ℕ
directory_of path = join_with_byte 47 (directories path)

-- Directories compare component by component, each by its bytes, a proper prefix first.
abbrev pub directory_cmp : List (List ℕ) → List (List ℕ) → Ordering
directory_cmp a b = slice_cmp (slice_cmp nat_cmp) a b

-- File order: the directories strictly ascend. So an ancestor's file stands before its descendants'.
abbrev pub AreInFileOrder : List (List ℕ) → Type 0
AreInFileOrder paths = IsStrictlySortedBy directory_cmp (map directories paths)

-- A directory is above another, or the same.
abbrev pub is_above : List (List ℕ) → List (List ℕ) → Bool
is_above above directory = starts_with bytes_eq directory above
