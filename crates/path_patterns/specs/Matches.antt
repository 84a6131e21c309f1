-- What a pattern matches in a directory, and which directories are walked for it. Nothing here walks.
use Rattle.std.specs.Prelude.{◌≡◌, ◌↔◌, ◌⊎◌, ◌++◌, ◌||◌, ℕ, Bool, true, not, List, [], ◌∷◌, Result, Ok, Err, Vec, ⊤}
use Rattle.std.specs.Prelude.{if◌then◌else◌}
use Rattle.std.specs.List.{list_any, list_all, Contains}
use Rattle.std.specs.List.Sorted.{IsStrictlySortedBy}
use Rattle.std.specs.Ordering.{nat_cmp}
use Rattle.std.specs.Cmp.Lexicographic.{slice_cmp}
use Rattle.std.specs.declared.alloc.Global.{Global}
use Rattle.bp_faults.specs.Characters.{is_barred_in_paths}
use Rattle.bp_faults.specs.Paths.{is_normal}
use Rattle.dir_entries.specs.Below.{names_of, LiesBelow}
use Rattle.dir_entries.specs.Entries.{HasMore}
use Rattle.path_patterns.specs.Globs.{is_star, has_star}
use Rattle.path_patterns.specs.Parts.{all_fit, leads}
use Rattle.path_patterns.specs.declared.limits.TheConstants.{MOST_ENTRIES}
use Rattle.path_patterns.specs.declared.matches.WalkError.{WalkError}

-- A byte that no matched name has: `*`, `|`, or that of a control character.
abbrev pub is_barred_in_matches : ℕ → Bool
is_barred_in_matches c = is_star c || is_barred_in_paths c

-- A name has none of these.
abbrev pub is_clear : List ℕ → Bool
is_clear name = not (list_any is_barred_in_matches name)

-- A held path is matched that is in normal form and lies below the directory by clear names, for which the pattern
-- stands.
pub record IsMatch (held : List (List ℕ)) (dir tail path : List ℕ) : Type 0 where
  pub holds : Contains held path
  pub normal : is_normal path ≡ true
  pub rest : List ℕ
  pub below : LiesBelow dir path rest
  pub clear : list_all is_clear (names_of rest) ≡ true
  pub fits : all_fit (names_of tail) (names_of rest) ≡ true

-- The matches: each once, by their bytes.
pub record AreMatches (held : List (List ℕ)) (dir tail : List ℕ) (found : List (List ℕ)) : Type 0 where
  pub order : IsStrictlySortedBy (slice_cmp nat_cmp) found
  pub exact : (path : List ℕ) → Contains found path ↔ IsMatch held dir tail path

-- The components before the first with `*`.
abbrev pub plain_parts : List (List ℕ) → List (List ℕ)
plain_parts [] = []
plain_parts (p ∷ ps) = if has_star p then [] else p ∷ plain_parts ps

-- The first component with `*`, and those behind it.
abbrev pub starred_parts : List (List ℕ) → List (List ℕ)
starred_parts [] = []
starred_parts (p ∷ ps) = if has_star p then p ∷ ps else starred_parts ps

-- From a directory to itself there are no names, and to what lies below it those of the rest.
abbrev pub NamesTo : List ℕ → List ℕ → List (List ℕ) → Type 0
NamesTo dir path names =
    ((path ≡ dir) × (names ≡ [])) ⊎ ((rest : List ℕ) × LiesBelow dir path rest × (names ≡ names_of rest))

-- A directory is walked whose path is in normal form, and for which some first components of the pattern stand, at
-- least all before the first with `*`, but not all of the pattern.
pub record IsWalked (dir tail walked : List ℕ) : Type 0 where
  pub normal : is_normal walked ≡ true
  pub more : List (List ℕ)
  pub to : NamesTo dir walked (plain_parts (names_of tail) ++ more)
  pub leads : leads (starred_parts (names_of tail)) more ≡ true

-- Some walked directory has too many entries.
abbrev pub IsWide : List (List ℕ) → List ℕ → List ℕ → Type 0
IsWide held dir tail = (walked : List ℕ) × IsWalked dir tail walked × HasMore held walked MOST_ENTRIES

-- What is answered of a pattern: its matches, or that some walked directory has too many entries, or one that isn't
-- read.
abbrev pub MatchesGive : List (List ℕ) → List ℕ → List ℕ → Result (Vec (List ℕ) Global) WalkError → Type 0
MatchesGive held dir tail (Ok found) = AreMatches held dir tail found.items × (IsWide held dir tail → ⊥)
MatchesGive held dir tail (Err WalkError.TooMany) = IsWide held dir tail
MatchesGive held dir tail (Err (WalkError.Failed failed)) = IsWalked dir tail failed
MatchesGive held dir tail (Err WalkError.OutOfMemory) = ⊤
