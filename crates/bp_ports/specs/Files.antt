-- Files by their paths, runs of bytes, and what a call does to them where the object tells them.
use Rattle.std.specs.Prelude.{◌≡◌, ◌≢◌, ℕ, ◌<◌, List, ◌++◌, length, take, Vec, Option, Some, None, Result, Ok, Err, ⊤}
use Rattle.std.specs.Prelude.{IsSomeAnd}
use Rattle.std.specs.Ordering.{nat_cmp}
use Rattle.std.specs.Cmp.Lexicographic.{slice_cmp}
use Rattle.std.specs.FinMap.{FinMap, get, insert}
use Rattle.std.specs.declared.alloc.Global.{Global}
use Rattle.bp_ports.specs.declared.store.ReadError.{ReadError}

-- The bytes of each file, by the bytes of its path.
abbrev pub Files : Type 0
Files = FinMap (slice_cmp nat_cmp) (List ℕ)

-- What is told before a call and after it is related. What is no longer told stays untold.
abbrev pub WhereTold : {A : Type 0} → (A → A → Type 0) → Option A → Option A → Type 0
WhereTold related (Some old) (Some new) = related old new
WhereTold related (Some old) None = ⊤
WhereTold related None (Some new) = ⊥
WhereTold related None None = ⊤

-- What a read answers of what the path holds, with a limit on how many bytes are wanted.
abbrev pub ReadGives : Option (List ℕ) → ℕ → Result (Vec ℕ Global) ReadError → Type 0
ReadGives held limit (Ok bytes) = held ≡ Some bytes.items
ReadGives held limit (Err ReadError.Absent) = held ≡ None
ReadGives held limit (Err ReadError.TooLarge) = IsSomeAnd held (λ bytes. limit < length bytes)
ReadGives held limit (Err ReadError.Failed) = ⊤
ReadGives held limit (Err ReadError.OutOfMemory) = ⊤

-- Every other path is as it was.
abbrev pub SameBut : List ℕ → Files → Files → Type 0
SameBut path old new = (other : List ℕ) → other ≢ path → get new other ≡ get old other

-- A write leaves exactly these bytes at the path, or it fails and nothing is said of the path. Every other path is as
-- it was.
abbrev pub WriteLeaves : {E : Type 0} → List ℕ → List ℕ → Result Unit E → Files → Files → Type 0
WriteLeaves path bytes (Ok done) old new = new ≡ insert old path bytes
WriteLeaves path bytes (Err failed) old new = SameBut path old new

-- Some first part of the bytes was appended.
abbrev pub AppendsPart : List ℕ → List ℕ → List ℕ → Type 0
AppendsPart bytes old new = (k : ℕ) × (new ≡ old ++ take k bytes)

-- A put appends the bytes, or it fails and appends a first part of them.
abbrev pub PutLeaves : {E : Type 0} → List ℕ → Result Unit E → List ℕ → List ℕ → Type 0
PutLeaves bytes (Ok done) old new = new ≡ old ++ bytes
PutLeaves bytes (Err failed) old new = AppendsPart bytes old new
