-- Order files: what their lines say, and where a pass is refused.
use Rattle.std.specs.Prelude.{◌≡◌, ◌<◌, ◌+◌, ◌++◌, ℕ, suc, List, [], ◌∷◌, length, drop, Some, ⊤}
use Rattle.std.specs.List.{Contains}
use Rattle.bp_faults.specs.declared.fault.Fault.{Fault}
use Rattle.bp_faults.specs.declared.ids.NodeId.{NodeId}
use Rattle.bp_faults.specs.declared.kind.FaultKind.TheVariants.{NotReady, OrderEnds}
use Rattle.bp_faults.specs.declared.place.Place.{Place}
use Rattle.bp_faults.specs.Faults.{fault_at, fault_on}
use Rattle.serial_pass.specs.declared.plan.Plan.{Plan}
use Rattle.serial_pass.specs.Orders.{numbers}
use Rattle.pass_core.specs.OrderOutcomes.{IsReadyAfter, IsReadyAt}
use Rattle.pass_ways.specs.declared.way.OrderLine.{OrderLine}
use Rattle.pass_ways.specs.Visits.{visits}

-- The first lines say these visits.
abbrev pub Say : List OrderLine → List (ℕ × NodeId) → Type 0
Say lines [] = ⊤
Say [] (v ∷ vs) = ⊥
Say (l ∷ ls) (v ∷ vs) = (l.entry ≡ Some v) × Say ls vs

-- The lines behind those that say these visits.
abbrev pub lines_behind : List OrderLine → List (ℕ × NodeId) → List OrderLine
lines_behind lines said = drop (length said) lines

-- Some nodes are a part of a pass: each was ready, and some node of the plan isn't among them.
pub record IsPart (plan : Plan) (order : List ℕ) : Type 0 where
  pub ready : (index : ℕ) → index < length order → IsReadyAt plan order index
  pub missing : (n : ℕ) × (n < plan.count) × (Contains order n → ⊥)

-- Where a line of a file begins. Lines are counted from 1.
abbrev pub line_start : ℕ → ℕ → Place
line_start file number = record { file = file; line = number; col = 1 }

-- After some nodes of a pass a line names this pass and a node that is ready.
abbrev pub IsLegalLine : Plan → ℕ → List NodeId → OrderLine → Type 0
IsLegalLine plan pass order l = (n : NodeId) × (l.entry ≡ Some (pass, n)) × IsReadyAfter plan (numbers order) n.0

-- The fault at the first of some lines, with its text, or that there is none. The lines are counted from a number on.
abbrev pub stopped_at : ℕ → ℕ → List OrderLine → Fault
stopped_at file number [] = fault_at OrderEnds (line_start file number)
stopped_at file number (l ∷ ls) = fault_on NotReady (line_start file number) l.text

-- No line comes next, or one that isn't legal.
abbrev pub IsIllegal : (OrderLine → Type 0) → List OrderLine → Type 0
IsIllegal Legal [] = ⊤
IsIllegal Legal (l ∷ ls) = Legal l → ⊥

-- Behind the visits of earlier passes the lines say a part of a pass, and the next of them isn't legal or isn't there.
pub record IsRefused (lines : List OrderLine) (file : ℕ) (before : List (ℕ × NodeId)) (pass : ℕ) (plan : Plan)
    (fault : Fault) : Type 0 where
  pub order : List NodeId
  pub part : IsPart plan (numbers order)
  pub says : Say lines (before ++ visits pass order)
  pub next : IsIllegal (IsLegalLine plan pass order) (lines_behind lines (before ++ visits pass order))
  pub fault_is : fault
      ≡ stopped_at file (suc (length before + length order)) (lines_behind lines (before ++ visits pass order))
