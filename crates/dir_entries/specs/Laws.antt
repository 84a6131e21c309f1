-- What holds of directories.
use Rattle.std.specs.Prelude.{◌≡◌, ℕ, List}
use Rattle.std.specs.List.{Contains}
use Rattle.dir_entries.specs.declared.entry.DirEntry.{DirEntry}
use Rattle.dir_entries.specs.contracts.entry.DirEntryOrd.TheImpl as entry_order
use Rattle.dir_entries.specs.Below.{LiesBelow}
use Rattle.dir_entries.specs.Entries.{AreEntries, IsDirEntry, entry_cmp}

-- The held paths give a directory its entries in one way alone.
abbrev pub EntriesAreOneList : Type 0
EntriesAreOneList =
    (held : List (List ℕ)) (dir : List ℕ) (one other : List DirEntry)
    → AreEntries held dir one → AreEntries held dir other → one ≡ other

-- The order of entries is `entry_cmp`.
abbrev pub EntriesAreOrdered : Type 0
EntriesAreOrdered = (a b : DirEntry) → (entry_order.ghosts).cmp a b ≡ entry_cmp a b

-- Each held path that lies below a directory gives it an entry.
abbrev pub PathsGiveEntries : Type 0
PathsGiveEntries =
    (held : List (List ℕ)) (dir path rest : List ℕ) → Contains held path → LiesBelow dir path rest
    → (e : DirEntry) × IsDirEntry held dir e
