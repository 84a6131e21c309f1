-- What directories are listed as, and what of it is kept. No public contract speaks of it.
use Rattle.std.specs.Prelude.{◌≡◌, ◌≤◌, ℕ, List, [], Vec, Some, Result, Ok, Err, length, ⊤}
use Rattle.std.specs.BTreeMap.{is_at}
use Rattle.std.specs.Map.{lookup}
use Rattle.std.specs.Option.{option_map_or}
use Rattle.std.specs.Ordering.{nat_cmp}
use Rattle.std.specs.Cmp.Lexicographic.{slice_cmp}
use Rattle.std.specs.declared.alloc.Global.{Global}
use Rattle.dir_entries.specs.declared.entry.DirEntry.{DirEntry}
use Rattle.dir_entries.specs.Entries.{AreEntries, HasMore}
use Rattle.path_patterns.specs.declared.directories.DirError.{DirError}
use Rattle.path_patterns.specs.declared.limits.TheConstants.{MOST_ENTRIES}

-- A directory has these entries, and they aren't too many.
abbrev pub HasFew : List (List ℕ) → List ℕ → Vec DirEntry Global → Type 0
HasFew held dir entries = AreEntries held dir entries.items × (length entries.items ≤ MOST_ENTRIES)

-- The entries of a directory, or that there are too many.
abbrev pub EntriesGive : List (List ℕ) → List ℕ → Result (Vec DirEntry Global) DirError → Type 0
EntriesGive held dir (Ok entries) = HasFew held dir entries
EntriesGive held dir (Err DirError.TooMany) = HasMore held dir MOST_ENTRIES
EntriesGive held dir (Err DirError.Failed) = ⊤
EntriesGive held dir (Err DirError.OutOfMemory) = ⊤

-- What is kept of directories: the entries of each.
abbrev pub Kept : Type 0
Kept = List (List ℕ × Vec DirEntry Global)

-- Each directory that is kept has its entries.
abbrev pub AreKept : List (List ℕ) → Kept → Type 0
AreKept held known = (dir : List ℕ) (entries : Vec DirEntry Global)
    → lookup (is_at (slice_cmp nat_cmp dir)) known ≡ Some entries → HasFew held dir entries

-- The entries that are kept of a directory, and none where none are.
abbrev pub kept_entries : Kept → List ℕ → List DirEntry
kept_entries known dir =
    option_map_or (λ (v : Vec DirEntry Global). v.items) (lookup (is_at (slice_cmp nat_cmp dir)) known) []
