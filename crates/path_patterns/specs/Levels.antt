-- The walk, level by level: where it begins, how far it has come, and what it answers. No public contract speaks of it.
use Rattle.std.specs.Prelude.{◌≡◌, ◌⊎◌, ◌+◌, ◌*◌, ℕ, suc, true, false, List, [], ◌∷◌, length, max, Option, Some, None}
use Rattle.std.specs.Prelude.{Result, Ok, Err, Vec, ⊤}
use Rattle.std.specs.List.{list_all}
use Rattle.std.specs.declared.alloc.Global.{Global}
use Rattle.bp_faults.specs.Paths.{is_component}
use Rattle.dir_entries.specs.declared.entry.DirEntry.{DirEntry}
use Rattle.dir_entries.specs.Below.{child}
use Rattle.dir_entries.specs.Entries.{AreEntries, HasMore}
use Rattle.path_patterns.specs.declared.limits.TheConstants.{MOST_ENTRIES}
use Rattle.path_patterns.specs.declared.matches.WalkError.{WalkError}
use Rattle.path_patterns.specs.declared.walk.OnWay.{OnWay}
use Rattle.path_patterns.specs.Matches.{is_clear, plain_parts, starred_parts}
use Rattle.path_patterns.specs.Parts.{Rest, has_rest}
use Rattle.path_patterns.specs.Stages.{way_of, ways_of}
use Rattle.path_patterns.specs.Ways.{Way, Finds, Leads}

-- The list has the element.
abbrev pub Among : {X : Type 0} → List X → X → Type 0
Among [] x = ⊥
Among (y ∷ ys) x = (y ≡ x) ⊎ Among ys x

-- The directory of some names in another.
abbrev pub descend : List ℕ → List (List ℕ) → List ℕ
descend dir [] = dir
descend dir (n ∷ ns) = descend (child dir n) ns

-- The walk begins at the directory of the components before the first with `*`, and the others are left.
abbrev pub first_way : List ℕ → List (List ℕ) → Way
first_way dir parts = record {
  path = descend dir (plain_parts parts);
  clear = list_all is_clear (plain_parts parts);
  rests = (0, starred_parts parts) ∷ [];
}

-- Where the walk begins, unless one of those components is none of a path in normal form.
abbrev pub FirstMeans : List ℕ → List (List ℕ) → Option OnWay → Type 0
FirstMeans dir parts None = list_all is_component (plain_parts parts) ≡ false
FirstMeans dir parts (Some first) =
    (list_all is_component (plain_parts parts) ≡ true) × (way_of parts first ≡ first_way dir parts)

-- A path lies below some of the directories.
abbrev pub SomeFinds : List (List ℕ) → List Way → List ℕ → Type 0
SomeFinds held ways path = (v : Way) × Among ways v × Finds held v path

-- A directory is walked from some of them.
abbrev pub SomeLeads : List Way → List ℕ → Type 0
SomeLeads ways walked = (v : Way) × Among ways v × Leads v walked

-- How far the walk has come, from a first directory, with a limit on how many entries one may have.
pub record Walks (held : List (List ℕ)) (limit : ℕ) (first : Way) (found : List (List ℕ)) (left : List Way)
    : Type 0 where
  pub finds : (path : List ℕ) → Finds held first path → Among found path ⊎ SomeFinds held left path
  pub found_is : (path : List ℕ) → Among found path → Finds held first path
  pub left_is : (v : Way) → Among left v → (path : List ℕ) → Finds held v path → Finds held first path
  pub leads : (walked : List ℕ) → HasMore held walked limit → Leads first walked → SomeLeads left walked
  pub led : (v : Way) → Among left v → (walked : List ℕ) → Leads v walked → Leads first walked
  pub going : (v : Way) → Among left v → has_rest v.rests ≡ true

-- What reading a directory comes to: its entries, which aren't too many, or that they are, or that it isn't read.
abbrev pub ReadMeans : List (List ℕ) → List ℕ → List DirEntry → Result Unit WalkError → Type 0
ReadMeans held dir entries (Ok done) = AreEntries held dir entries × (HasMore held dir MOST_ENTRIES → ⊥)
ReadMeans held dir entries (Err WalkError.TooMany) = HasMore held dir MOST_ENTRIES
ReadMeans held dir entries (Err (WalkError.Failed failed)) = failed ≡ dir
ReadMeans held dir entries (Err WalkError.OutOfMemory) = ⊤

-- Why a walk from a first directory ends early.
abbrev pub WalkEnds : List (List ℕ) → Way → WalkError → Type 0
WalkEnds held first WalkError.TooMany = (walked : List ℕ) × Leads first walked × HasMore held walked MOST_ENTRIES
WalkEnds held first (WalkError.Failed failed) = Leads first failed
WalkEnds held first WalkError.OutOfMemory = ⊤

-- What walking a level comes to: the next level, or an early end.
abbrev pub LevelMeans : List (List ℕ) → List (List ℕ) → Way → List (List ℕ) → Result (Vec OnWay Global) WalkError
    → Type 0
LevelMeans held parts first found (Ok next) = Walks held MOST_ENTRIES first found (ways_of parts next.items)
LevelMeans held parts first found (Err why) = WalkEnds held first why

-- What walking all levels comes to: everything that is found, or an early end.
abbrev pub WalkMeans : List (List ℕ) → Way → Result (Vec (List ℕ) Global) WalkError → Type 0
WalkMeans held first (Ok found) = Walks held MOST_ENTRIES first found.items []
WalkMeans held first (Err why) = WalkEnds held first why

-- How far what is left of a pattern may still reach, at most.
abbrev pub weight : Rest → ℕ
weight r = r.0 + 65 * length r.1

-- One more than the most of it, or 0 where nothing is left.
abbrev pub heaviest : List Rest → ℕ
heaviest [] = 0
heaviest (r ∷ rs) = max (suc (weight r)) (heaviest rs)

-- The same of directories.
abbrev pub tallest : List Way → ℕ
tallest [] = 0
tallest (v ∷ vs) = max (suc (heaviest v.rests)) (tallest vs)
