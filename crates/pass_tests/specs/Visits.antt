-- The meaning of the visitor in the tests.
use Rattle.std.specs.Prelude.{◌==◌, ◌||◌, ℕ, List, length, Result, Ok, Err, if◌then◌else◌}
use Rattle.bp_faults.specs.declared.fault.Fault.{Fault}
use Rattle.bp_faults.specs.declared.kind.FaultKind.TheVariants.{BadSource}
use Rattle.bp_faults.specs.Faults.{fault_at, file_start}

-- How many predecessors' results there are, but two nodes are refused.
abbrev pub counted_but : ℕ → ℕ → ℕ → List ℕ → Result ℕ Fault
counted_but one other n ins =
    if (n == one) || (n == other) then Err (fault_at BadSource (file_start n)) else Ok (length ins)
