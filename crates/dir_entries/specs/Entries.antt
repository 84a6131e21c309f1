-- The entries of a directory, by the held paths.
use Rattle.std.specs.Prelude.{◌≡◌, ◌↔◌, ◌++◌, ◌<◌, ℕ, Bool, true, false, List, ◌∷◌, length}
use Rattle.std.specs.List.{Contains}
use Rattle.std.specs.List.Sorted.{IsStrictlySortedBy}
use Rattle.std.specs.Ordering.{nat_cmp, bool_cmp, ordering_then}
use Rattle.std.specs.Cmp.Lexicographic.{slice_cmp}
use Rattle.std.specs.declared.cmp.Ordering.{Ordering}
use Rattle.dir_entries.specs.declared.entry.DirEntry.{DirEntry}
use Rattle.dir_entries.specs.contracts.entry.DirEntryOrd.TheImpl as entry_order
use Rattle.dir_entries.specs.Below.{has_slash, LiesBelow}

-- A name is all of the rest, as a file's, or what stands before a slash of it, as a directory's.
abbrev pub Begins : List ℕ → List ℕ → Bool → Type 0
Begins rest name false = rest ≡ name
Begins rest name true = (more : List ℕ) × (rest ≡ name ++ 47 ∷ more)

-- An entry has the first name of what a path has behind its directory.
pub record EntryMeans (rest : List ℕ) (e : DirEntry) : Type 0 where
  pub whole : has_slash e.name ≡ false
  pub begins : Begins rest e.name e.dir

-- Some held path that lies below the directory begins there with this name.
pub record IsDirEntry (held : List (List ℕ)) (dir : List ℕ) (e : DirEntry) : Type 0 where
  pub path : List ℕ
  pub holds : Contains held path
  pub rest : List ℕ
  pub below : LiesBelow dir path rest
  pub whole : has_slash e.name ≡ false
  pub begins : Begins rest e.name e.dir

-- Entries compare by name, and of one name the file is the lesser.
abbrev pub entry_cmp : DirEntry → DirEntry → Ordering
entry_cmp a b = ordering_then (slice_cmp nat_cmp a.name b.name) (bool_cmp a.dir b.dir)

-- The entries of a directory: each once, in their order.
pub record AreEntries (held : List (List ℕ)) (dir : List ℕ) (entries : List DirEntry) : Type 0 where
  pub order : IsStrictlySortedBy ((entry_order.ghosts).cmp) entries
  pub exact : (e : DirEntry) → Contains entries e ↔ IsDirEntry held dir e

-- A directory has more entries than this.
abbrev pub HasMore : List (List ℕ) → List ℕ → ℕ → Type 0
HasMore held dir limit = (entries : List DirEntry) × AreEntries held dir entries × (limit < length entries)

-- Some entries, in any order, are those that the held paths give the directory.
abbrev pub GiveEntries : List (List ℕ) → List ℕ → List DirEntry → Type 0
GiveEntries held dir entries = (e : DirEntry) → Contains entries e ↔ IsDirEntry held dir e
