-- A directory isn't read only where a failure was counted.
use Rattle.std.specs.Prelude.{ℕ, ◌≤◌, Result, Ok, Err, ⊤}
use Rattle.bp_ports.specs.Causes.{Rose}
use Rattle.path_patterns.specs.declared.matches.WalkError.{WalkError}

-- A directory isn't read only where this holds.
abbrev pub FailsOnlyWhere : {T : Type 0} → Type 0 → Result T WalkError → Type 0
FailsOnlyWhere cause (Ok value) = ⊤
FailsOnlyWhere cause (Err WalkError.TooMany) = ⊤
FailsOnlyWhere cause (Err (WalkError.Failed failed)) = cause
FailsOnlyWhere cause (Err WalkError.OutOfMemory) = ⊤

-- The count of failures doesn't fall, and a directory isn't read only where it rose.
pub record WalkCause {T : Type 0} (before now : ℕ) (result : Result T WalkError) : Type 0 where
  pub later : before ≤ now
  pub rose : FailsOnlyWhere (Rose before now) result
