-- What each way makes and refuses, and what a call answers that runs a pass some way.
use Rattle.std.specs.Prelude.{◌≤◌, ◌<◌, ◌++◌, ℕ, List, length, map, Result, Ok, Err, ⊤}
use Rattle.std.specs.Arc.{arc_value}
use Rattle.bp_faults.specs.declared.fault.Fault.{Fault}
use Rattle.bp_faults.specs.declared.ids.NodeId.{NodeId}
use Rattle.bp_faults.specs.declared.limits.TheConstants.{MOST_WORKERS}
use Rattle.serial_pass.specs.declared.plan.Plan.{Plan}
use Rattle.serial_pass.specs.Orders.{IsLegal, numbers}
use Rattle.serial_pass.specs.Outcomes.{PassOutcomeMeans}
use Rattle.pass_ways.specs.declared.error.WayError.{WayError}
use Rattle.pass_ways.specs.declared.error.WayError.TheVariants.{At, Refused, OutOfMemory}
use Rattle.pass_ways.specs.declared.way.Way.{Way}
use Rattle.pass_ways.specs.declared.way.Way.TheVariants.{Workers, Lines}
use Rattle.pass_ways.specs.declared.way_run.WayRun.{WayRun}
use Rattle.pass_ways.specs.OrderFiles.{IsRefused, Say}
use Rattle.pass_ways.specs.Visits.{visits}

module _ {G : Type 0} where
  -- There are 1 to 64 workers, and a `u32` counts the lines of an order file and one more.
  abbrev pub IsPassWay : Way G → Type 0
  IsPassWay (Workers workers gate) = (1 ≤ workers) × (workers ≤ MOST_WORKERS)
  IsPassWay (Lines order_lines) = length order_lines.lines.now < 4294967295

  -- Some visits are such as the way makes: workers make any, and lines those that they say.
  abbrev pub Follows : Way G → List (ℕ × NodeId) → Type 0
  Follows (Workers workers gate) made = ⊤
  Follows (Lines order_lines) made = Say order_lines.lines.now made

  -- After some visits the way refuses a pass, by its number and plan, with a fault. Workers refuse none.
  abbrev pub RefusesPass : Way G → List (ℕ × NodeId) → ℕ → Plan → Fault → Type 0
  RefusesPass (Workers workers gate) before pass plan fault = ⊥
  RefusesPass (Lines order_lines) before pass plan fault =
      IsRefused order_lines.lines.now order_lines.file before pass plan fault

-- A legal order of the plan was followed, behind the visits of the passes before.
abbrev pub Runs : (List (ℕ × NodeId) → Type 0) → Plan → ℕ → List (ℕ × NodeId) → List NodeId → Type 0
Runs Follows plan pass before order = IsLegal plan (numbers order) × Follows (before ++ visits pass order)

module _ (Follows : List (ℕ × NodeId) → Type 0) (Refuses : List (ℕ × NodeId) → ℕ → Plan → Fault → Type 0) where
  -- The answer is the outcome of the pass, where some legal order was followed, or a refusal of the way's own, or that
  -- memory ran out.
  abbrev pub AnswersBy : {O : Type 0} → (ℕ → List O → Result O Fault) → Plan → ℕ → List (ℕ × NodeId)
      → Result (WayRun O) WayError → Type 0
  AnswersBy mean plan pass before (Ok run) =
      PassOutcomeMeans mean plan (Ok (map arc_value run.outs.items)) × Runs Follows plan pass before run.order
  AnswersBy mean plan pass before (Err (At n fault)) =
      PassOutcomeMeans mean plan (Err (n.0, fault)) × ((order : List NodeId) × Runs Follows plan pass before order)
  AnswersBy mean plan pass before (Err (Refused fault)) = Refuses before pass plan fault
  AnswersBy mean plan pass before (Err OutOfMemory) = ⊤

-- The same of a way.
abbrev pub AnswersWay : {G O : Type 0} → Way G → (ℕ → List O → Result O Fault) → Plan → ℕ → List (ℕ × NodeId)
    → Result (WayRun O) WayError → Type 0
AnswersWay way = AnswersBy (Follows way) (RefusesPass way)
