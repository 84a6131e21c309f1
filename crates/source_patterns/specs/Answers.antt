-- What the calls answer.
use Rattle.std.specs.Prelude.{◌≤◌, ℕ, List, Result, Ok, Err, ⊤}
use Rattle.bp_faults.specs.declared.fault.Fault.{Fault}
use Rattle.bp_ports.specs.Causes.{Rose}
use Rattle.source_patterns.specs.declared.error.ExpandError.{ExpandError}
use Rattle.source_patterns.specs.declared.error.ExpandError.TheVariants.{Bad, Failed, OutOfMemory}

-- A call answers a value that is meant, as the view shows it, or a fault that is meant, or a directory that is walked,
-- or memory ran out.
abbrev pub ExpandGives : {T V : Type 0} → (T → V) → (Result V Fault → Type 0) → (List ℕ → Type 0) → Result T ExpandError
    → Type 0
ExpandGives view Means Walks (Ok value) = Means (Ok (view value))
ExpandGives view Means Walks (Err (Bad fault)) = Means (Err fault)
ExpandGives view Means Walks (Err (Failed walked)) = Walks walked
ExpandGives view Means Walks (Err OutOfMemory) = ⊤

-- A directory isn't read only where this holds.
abbrev pub UnreadOnlyWhere : {T : Type 0} → Type 0 → Result T ExpandError → Type 0
UnreadOnlyWhere cause (Ok value) = ⊤
UnreadOnlyWhere cause (Err (Bad fault)) = ⊤
UnreadOnlyWhere cause (Err (Failed walked)) = cause
UnreadOnlyWhere cause (Err OutOfMemory) = ⊤

-- The count of failures doesn't fall, and a directory isn't read only where it rose.
pub record ExpandCause {T : Type 0} (before now : ℕ) (result : Result T ExpandError) : Type 0 where
  pub later : before ≤ now
  pub rose : UnreadOnlyWhere (Rose before now) result
