-- What reading a directory comes to, where a directory has one list of entries.
use Rattle.std.proofs.Common.{◌≤◌, ℕ, List, length, ap, arith, Option}
use Rattle.std.specs.Prelude.{IfSome, Ok}
use Rattle.std.proofs.lemmas.Option.{IfSome_then}
use Rattle.dir_entries.specs.declared.entry.DirEntry.{DirEntry}
use Rattle.dir_entries.specs.Entries.{AreEntries, HasMore}
use Rattle.dir_entries.specs.Laws.{EntriesAreOneList}
use Rattle.path_patterns.specs.Levels.{ReadMeans}
use Rattle.path_patterns.specs.Reads.{DirGives}

-- A directory that has no more entries than a limit hasn't more.
not_more : EntriesAreOneList → (held : List (List ℕ)) (dir : List ℕ) (entries : List DirEntry) (limit : ℕ)
    → AreEntries held dir entries → length entries ≤ limit → HasMore held dir limit → ⊥
not_more once held dir entries limit are few many =
    let same = ap length (once held dir entries many.0 are many.1) in
    let over = many.2 in
    omega arith

pub read_means : (held : Option (List (List ℕ))) (dir : List ℕ) (entries : List DirEntry) → EntriesAreOneList
    → IfSome held (λ paths. DirGives paths dir entries (Ok tt))
    → IfSome held (λ paths. ReadMeans paths dir entries (Ok tt))
read_means held dir entries once given =
    IfSome_then held given (λ paths gives. (gives.0, λ many. not_more once paths dir entries _ gives.0 gives.1 many))
