-- Comparisons that say yes exactly where two values are equal, and those of lists, options and pairs.
use Rattle.std.specs.Prelude.{◌≡◌, ℕ, List, Bool, ◌&&◌}
use Rattle.std.specs.Bool.{Decides}
use Rattle.bp_faults.specs.declared.fault.Fault.{Fault}
use Rattle.bp_faults.specs.declared.kind.FaultKind.{FaultKind}
use Rattle.bp_faults.specs.declared.place.Place.{Place}

-- A comparison says yes exactly where contracts see the same value twice.
abbrev pub IsEquality : {X : Type 0} → (X → X → Bool) → Type 0
IsEquality {X} same = (x y : X) → Decides (same x y) (x ≡ y)

-- Two pairs are compared part by part.
abbrev pub same_pairs : {X Y : Type 0} → (X → X → Bool) → (Y → Y → Bool) → X × Y → X × Y → Bool
same_pairs same_first same_second a b = same_first a.0 b.0 && same_second a.1 b.1

-- A fault by its parts.
abbrev pub fault_parts : Fault → FaultKind × (Place × (List ℕ × List (List ℕ)))
fault_parts f = (f.kind, (f.at, (f.subject, f.chain)))

-- The fault of some parts.
abbrev pub fault_of_parts : FaultKind × (Place × (List ℕ × List (List ℕ))) → Fault
fault_of_parts p = record { kind = p.0; at = p.1.0; subject = p.1.1.0; chain = p.1.1.1 }
