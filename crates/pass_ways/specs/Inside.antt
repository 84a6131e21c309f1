-- What is taken of the lines for a pass, what refuses one, and what a pass without workers answers. No public contract
-- speaks of it.
use Rattle.std.specs.Prelude.{◌≡◌, ◌≤◌, ◌⊎◌, ℕ, List, [], ◌∷◌, length, map, drop, Result, Some, Ok, Err, ⊤}
use Rattle.std.specs.Arc.{arc_value}
use Rattle.bp_faults.specs.declared.fault.Fault.{Fault}
use Rattle.bp_faults.specs.declared.ids.NodeId.{NodeId}
use Rattle.serial_pass.specs.declared.plan.Plan.{Plan}
use Rattle.serial_pass.specs.Orders.{IsLegal, numbers}
use Rattle.serial_pass.specs.Outcomes.{PassOutcomeMeans}
use Rattle.pass_ways.specs.declared.error.WayError.{WayError}
use Rattle.pass_ways.specs.declared.error.WayError.TheVariants.{At, Refused, OutOfMemory}
use Rattle.pass_ways.specs.declared.way_run.WayRun.{WayRun}
use Rattle.pass_ways.specs.declared.way.OrderLine.{OrderLine}
use Rattle.pass_ways.specs.OrderFiles.{Say}
use Rattle.pass_ways.specs.Visits.{visits}

-- The first line is none of the pass.
abbrev pub IsOther : ℕ → List OrderLine → Type 0
IsOther pass [] = ⊤
IsOther pass (l ∷ ls) = (n : NodeId) → l.entry ≡ Some (pass, n) → ⊥

-- The nodes that the first lines name of a pass: as many as are wanted, or all before a line that is none of the pass.
pub record IsTaken (lines : List OrderLine) (pass most : ℕ) (order : List NodeId) : Type 0 where
  pub say : Say lines (visits pass order)
  pub few : length order ≤ most
  pub whole : (length order ≡ most) ⊎ IsOther pass (drop (length order) lines)

module _ {O : Type 0} where
  -- A pass without workers answers its outcome, behind a legal order where there are results, and refuses nothing.
  abbrev pub AnswersAlone : (ℕ → List O → Result O Fault) → Plan → Result (WayRun O) WayError → Type 0
  AnswersAlone mean plan (Ok run) =
      PassOutcomeMeans mean plan (Ok (map arc_value run.outs.items)) × IsLegal plan (numbers run.order)
  AnswersAlone mean plan (Err (At n fault)) = PassOutcomeMeans mean plan (Err (n.0, fault))
  AnswersAlone mean plan (Err (Refused fault)) = ⊥
  AnswersAlone mean plan (Err OutOfMemory) = ⊤

-- An error is a refusal with this fault, or that memory ran out.
abbrev pub RefusesWith : Fault → WayError → Type 0
RefusesWith fault (At n other) = ⊥
RefusesWith fault (Refused other) = other ≡ fault
RefusesWith fault OutOfMemory = ⊤
