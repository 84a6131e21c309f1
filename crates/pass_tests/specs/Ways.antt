-- The meaning of the visitor in the tests.
use Rattle.std.specs.Prelude.{◌==◌, ℕ, Result, Ok, Err, if◌then◌else◌}
use Rattle.bp_faults.specs.declared.fault.Fault.{Fault}
use Rattle.bp_faults.specs.declared.kind.FaultKind.TheVariants.{BadSource}
use Rattle.bp_faults.specs.Faults.{fault_at, file_start}

-- A node makes its own number, but one node is refused.
abbrev pub number_unless : ℕ → ℕ → Result ℕ Fault
number_unless refused n = if n == refused then Err (fault_at BadSource (file_start n)) else Ok n
