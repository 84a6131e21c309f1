-- What reading a directory answers, where the held paths are told.
use Rattle.std.specs.Prelude.{◌≤◌, ℕ, List, Result, Ok, Err, length, ⊤}
use Rattle.dir_entries.specs.declared.entry.DirEntry.{DirEntry}
use Rattle.dir_entries.specs.Entries.{AreEntries, HasMore}
use Rattle.path_patterns.specs.declared.directories.DirError.{DirError}
use Rattle.path_patterns.specs.declared.limits.TheConstants.{MOST_ENTRIES}

-- The directory's entries, or that there are too many.
abbrev pub DirGives : List (List ℕ) → List ℕ → List DirEntry → Result Unit DirError → Type 0
DirGives held dir entries (Ok done) = AreEntries held dir entries × (length entries ≤ MOST_ENTRIES)
DirGives held dir entries (Err DirError.TooMany) = HasMore held dir MOST_ENTRIES
DirGives held dir entries (Err DirError.Failed) = ⊤
DirGives held dir entries (Err DirError.OutOfMemory) = ⊤
