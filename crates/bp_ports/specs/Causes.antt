-- Counts of failures: a failure is answered only where its count rose.
use Rattle.std.specs.Prelude.{ℕ, ◌+◌, ◌-◌, ◌^◌, ◌≤◌, min, Result, Ok, Err, IsErrOf, OnErr}
use Rattle.bp_ports.specs.declared.store.ListError.{ListError}
use Rattle.bp_ports.specs.declared.store.ReadError.{ReadError}

-- The count rose in between, or stands at its last value.
abbrev pub Rose : ℕ → ℕ → Type 0
Rose before now = min (before + 1) (2 ^ 64 - 1) ≤ now

-- A count never falls, and an error comes only where it rose.
pub record HasCause {T E : Type 0} (before now : ℕ) (result : Result T E) : Type 0 where
  pub later : before ≤ now
  pub rose : OnErr result (Rose before now)

-- The same for one error of several.
pub record HasCauseAt {T E : Type 0} (error : E) (before now : ℕ) (result : Result T E) : Type 0 where
  pub later : before ≤ now
  pub rose : IsErrOf result error → Rose before now

-- One more, up to the last value of 64 bits.
abbrev pub risen : ℕ → ℕ
risen count = min (count + 1) (2 ^ 64 - 1)

-- A count that rises by one at each error, and by nothing else.
abbrev pub count_after : {T E : Type 0} → Result T E → ℕ → ℕ
count_after (Ok done) count = count
count_after (Err failed) count = risen count

-- The same for reads, of whose errors only `Failed` is counted.
abbrev pub read_count_after : {T : Type 0} → Result T ReadError → ℕ → ℕ
read_count_after (Ok bytes) count = count
read_count_after (Err ReadError.Failed) count = risen count
read_count_after (Err ReadError.Absent) count = count
read_count_after (Err ReadError.TooLarge) count = count
read_count_after (Err ReadError.OutOfMemory) count = count

-- The same for lists.
abbrev pub list_count_after : {T : Type 0} → Result T ListError → ℕ → ℕ
list_count_after (Ok entries) count = count
list_count_after (Err ListError.Failed) count = risen count
list_count_after (Err ListError.Absent) count = count
list_count_after (Err ListError.TooMany) count = count
list_count_after (Err ListError.OutOfMemory) count = count
