-- What the items of a list come to, one after another: a pattern is replaced by its matches.
use Rattle.std.specs.Prelude.{◌≡◌, ◌++◌, ◌+◌, ◌&&◌, ℕ, Bool, true, false, not, nat_le, List, [], ◌∷◌, length, codes}
use Rattle.std.specs.Prelude.{if◌then◌else◌, Result, Ok, Err}
use Rattle.std.specs.List.{list_any}
use Rattle.std.specs.Str.{bytes_eq}
use Rattle.bp_faults.specs.declared.fault.Fault.{Fault}
use Rattle.bp_faults.specs.declared.kind.FaultKind.TheVariants.{TooMany}
use Rattle.bp_faults.specs.declared.limits.TheConstants.{MOST_LIST_ITEMS}
use Rattle.bp_faults.specs.declared.place.Place.{Place}
use Rattle.bp_faults.specs.Faults.{fault_on}
use Rattle.bp_faults.specs.Phases.{Then}
use Rattle.bp_props.specs.declared.source.Source.{Source}
use Rattle.bp_props.specs.Meaning.{names_module}
use Rattle.source_patterns.specs.Patterns.{is_pattern, FoundMeans}

-- A source is this path.
abbrev pub is_path_of : List ℕ → Source → Bool
is_path_of path source = not (names_module source) && bytes_eq path source.item.text

-- Some source is this path.
abbrev pub has_path : List Source → List ℕ → Bool
has_path sources path = list_any (is_path_of path) sources

-- A match is a source at the place of its pattern.
abbrev pub match_at : Place → List ℕ → Source
match_at at path = record { named = false; item = record { text = path; at = at } }

-- A match goes behind the items, unless one of them is its path.
abbrev pub with_match : List Source → Place → List ℕ → List Source
with_match items at path = if has_path items path then items else items ++ match_at at path ∷ []

-- The same of all matches in turn.
abbrev pub with_matches : List Source → Place → List (List ℕ) → List Source
with_matches items at [] = items
with_matches items at (path ∷ found) = with_matches (with_match items at path) at found

-- Items to which so many are still to come are a list, unless these are too many.
abbrev pub items_within : ℕ → Place → List Source → Result (List Source) Fault
items_within left at items =
    if nat_le (length items + left) MOST_LIST_ITEMS then Ok items else Err (fault_on TooMany at (codes "list"))

-- A pattern is replaced by those of its matches that no item before it gives. Then the list is measured.
abbrev pub PatternMeans : List (List ℕ) → List ℕ → List Source → ℕ → Source → Result (List Source) Fault → Type 0
PatternMeans held dir items left source =
    Then (FoundMeans held dir source)
    (λ found o. items_within left source.item.at (with_matches items source.item.at found) ≡ o)

-- A source is a pattern or not. One that isn't goes behind the items as it is.
abbrev pub SourceMeans : Bool → List (List ℕ) → List ℕ → List Source → ℕ → Source → Result (List Source) Fault → Type 0
SourceMeans true held dir items left source outcome = PatternMeans held dir items left source outcome
SourceMeans false held dir items left source outcome = Ok (items ++ source ∷ []) ≡ outcome

-- What comes of a source behind the items before it, where so many are still to come.
abbrev pub ItemMeans : List (List ℕ) → List ℕ → List Source → ℕ → Source → Result (List Source) Fault → Type 0
ItemMeans held dir items left source = SourceMeans (is_pattern dir source) held dir items left source

-- What comes of sources behind the items before them.
abbrev pub ItemsMean : List (List ℕ) → List ℕ → List Source → List Source → Result (List Source) Fault → Type 0
ItemsMean held dir items [] outcome = Ok items ≡ outcome
ItemsMean held dir items (source ∷ sources) outcome =
    Then (ItemMeans held dir items (length sources) source) (λ more. ItemsMean held dir more sources) outcome
