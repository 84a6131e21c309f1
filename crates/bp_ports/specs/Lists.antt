-- What listing a directory answers, where the files are told.
use Rattle.std.specs.Prelude.{◌≢◌, ◌↔◌, ℕ, List, [], Vec, Result, Ok, Err, ⊤}
use Rattle.std.specs.List.{Contains}
use Rattle.std.specs.FinMap.{keys}
use Rattle.std.specs.declared.alloc.Global.{Global}
use Rattle.dir_entries.specs.Below.{LiesBelow}
use Rattle.dir_entries.specs.Entries.{AreEntries, HasMore}
use Rattle.dir_entries.specs.declared.entry.DirEntry.{DirEntry}
use Rattle.bp_ports.specs.Files.{Files}
use Rattle.bp_ports.specs.declared.store.ListError.{ListError}

-- A directory is absent that isn't the root, and below which no held path lies.
pub record IsAbsent (held : List (List ℕ)) (dir : List ℕ) : Type 0 where
  pub inner : dir ≢ []
  pub bare : (path rest : List ℕ) → Contains held path → LiesBelow dir path rest → ⊥

-- What a list answers of the held files, with a limit on how many entries are wanted.
abbrev pub ListGives : Files → List ℕ → ℕ → Result (Vec DirEntry Global) ListError → Type 0
ListGives files dir limit (Ok entries) = AreEntries (keys files) dir entries.items × ¬ (IsAbsent (keys files) dir)
ListGives files dir limit (Err ListError.Absent) = IsAbsent (keys files) dir
ListGives files dir limit (Err ListError.TooMany) = HasMore (keys files) dir limit
ListGives files dir limit (Err ListError.Failed) = ⊤
ListGives files dir limit (Err ListError.OutOfMemory) = ⊤

-- These are the paths of the held files, in any order and maybe some more than once.
abbrev pub ArePaths : List (List ℕ) → Files → Type 0
ArePaths paths files = (path : List ℕ) → Contains paths path ↔ Contains (keys files) path
