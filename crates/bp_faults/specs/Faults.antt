-- Faults as plain data.
use Rattle.std.specs.Prelude.{ℕ, List, []}
use Rattle.bp_faults.specs.declared.kind.FaultKind.{FaultKind}
use Rattle.bp_faults.specs.declared.place.Place.{Place}
use Rattle.bp_faults.specs.declared.fault.Fault.{Fault}

-- A fault of a subject has no chain.
abbrev pub fault_on : FaultKind → Place → List ℕ → Fault
fault_on kind at subject = record { kind = kind; at = at; subject = subject; chain = [] }

-- A fault without a subject has the empty text in its place.
abbrev pub fault_at : FaultKind → Place → Fault
fault_at kind at = fault_on kind at []

-- A file begins in line 1 and column 1.
abbrev pub file_start : ℕ → Place
file_start file = record { file = file; line = 1; col = 1 }
