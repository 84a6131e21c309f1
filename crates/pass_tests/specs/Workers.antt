-- The meaning of the visitor in the tests.
use Rattle.std.specs.Prelude.{◌==◌, ◌||◌, ℕ, Result, Ok, Err, if◌then◌else◌}
use Rattle.bp_faults.specs.declared.fault.Fault.{Fault}
use Rattle.bp_faults.specs.declared.kind.FaultKind.TheVariants.{BadSource}
use Rattle.bp_faults.specs.Faults.{fault_at, file_start}

-- A node makes its own number, but two nodes are refused.
abbrev pub number_but : ℕ → ℕ → ℕ → Result ℕ Fault
number_but one other n = if (n == one) || (n == other) then Err (fault_at BadSource (file_start n)) else Ok n
