-- The list file: which paths it lists, or its first fault.
use Rattle.std.specs.Prelude.{◌≡◌, ◌↔◌, ◌⊎◌, ℕ, ◌+◌, ◌-◌, ◌<◌, ◌≤◌, Bool, false, List, [], ◌∷◌, length, take, not, ◌&&◌}
use Rattle.std.specs.Prelude.{◌||◌, ◌==◌, codes, if◌then◌else◌, Option, Some, None, IsTrue, Result, Ok, Err}
use Rattle.std.specs.Prelude.{slice_index_or}
use Rattle.std.specs.List.{All, Contains, filter_map, list_all, list_any}
use Rattle.std.specs.Str.{bytes_eq}
use Rattle.std.specs.Str.Lines.{lines}
use Rattle.bp_faults.specs.declared.place.Place.{Place}
use Rattle.bp_faults.specs.declared.fault.Fault.{Fault}
use Rattle.bp_faults.specs.declared.kind.FaultKind.TheVariants.{BadList, TooMany}
use Rattle.bp_faults.specs.declared.limits.TheConstants.{MOST_FILES}
use Rattle.bp_faults.specs.Characters.{is_barred_in_paths}
use Rattle.bp_faults.specs.Faults.{fault_on}
use Rattle.bp_faults.specs.Paths.{is_normal}
use Rattle.property_values.specs.Paths.{parts}
use Rattle.bp_load.specs.Directories.{AreInFileOrder}
use Rattle.bp_load.specs.Texts.{AsText}

-- A blank line has spaces and tabs alone.
abbrev pub is_blank : List ℕ → Bool
is_blank line = list_all (λ b. (b == 32) || (b == 9)) line

-- All leading `./` are dropped.
abbrev pub without_dots : List ℕ → List ℕ
without_dots [] = []
without_dots (a ∷ []) = a ∷ []
without_dots (a ∷ b ∷ rest) = if (a == 46) && (b == 47) then without_dots rest else a ∷ b ∷ rest

-- The last component of a path.
abbrev pub file_name : List ℕ → List ℕ
file_name path = slice_index_or (parts path) (length (parts path) - 1) []

-- What may be listed: a path in normal form whose last component is `Android.bp`.
abbrev pub is_listed : List ℕ → Bool
is_listed path =
    is_normal path && (not (list_any is_barred_in_paths path) && bytes_eq (file_name path) (codes "Android.bp"))

-- A line is sound where it is blank, or what it names may be listed.
abbrev pub is_sound : List ℕ → Bool
is_sound line = is_blank line || is_listed (without_dots line)

-- What a line names.
abbrev pub listed_path : List ℕ → Option (List ℕ)
listed_path line = if is_blank line then None else Some (without_dots line)

-- The paths are those that the lines name, each once, in file order.
pub record AreListed (lines paths : List (List ℕ)) : Type 0 where
  pub sound : All (λ line. IsTrue (is_sound line)) lines
  pub order : AreInFileOrder paths
  pub members : (path : List ℕ) → Contains paths path ↔ Contains (filter_map listed_path lines) path

-- The place of the line at an index, which is its start.
abbrev pub line_place : ℕ → Place
line_place at = record { file = 0; line = at + 1; col = 1 }

-- A line that isn't sound is wrong, and the line with which the paths become more than 16,384.
abbrev pub IsWrongAt : List (List ℕ) → ℕ → Fault → Type 0
IsWrongAt lines at fault =
    ((is_sound (slice_index_or lines at []) ≡ false)
    × (fault ≡ fault_on BadList (line_place at) (slice_index_or lines at [])))
    ⊎ ((paths : List (List ℕ)) × AreListed (take (at + 1) lines) paths × (MOST_FILES < length paths)
    × (fault ≡ fault_on TooMany (line_place at) (codes "files")))

-- These are the paths of the list: all lines are sound, and the paths are no more than 16,384.
pub record AreFiles (lines paths : List (List ℕ)) : Type 0 where
  pub listed : AreListed lines paths
  pub few : length paths ≤ MOST_FILES

-- The first fault: the lines before it list files, and its line is wrong.
pub record IsFirstListFault (lines : List (List ℕ)) (fault : Fault) : Type 0 where
  pub at : ℕ
  pub inside : at < length lines
  pub before : List (List ℕ)
  pub files : AreFiles (take at lines) before
  pub wrong : IsWrongAt lines at fault

-- What the lines of a list file mean: the paths of its files in file order, or its first fault.
abbrev pub LinesMean : List (List ℕ) → Result (List (List ℕ)) Fault → Type 0
LinesMean lines (Ok paths) = AreFiles lines paths
LinesMean lines (Err fault) = IsFirstListFault lines fault

-- What a list file means: the paths of its files in file order, or its first fault. Lines end with LF, and the
-- last may lack it; one CR before LF is no part of the line.
abbrev pub ListMeans : List ℕ → Result (List (List ℕ)) Fault → Type 0
ListMeans bytes outcome = AsText 0 bytes (LinesMean (lines bytes)) outcome
