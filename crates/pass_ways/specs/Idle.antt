-- Passes that make nothing of their nodes.
use Rattle.std.specs.Prelude.{◌≡◌, ◌<◌, ◌≤◌, ℕ, List, Option, Some, None, Result, Ok, Err, ⊤}
use Rattle.bp_faults.specs.declared.fault.Fault.{Fault}
use Rattle.bp_faults.specs.declared.ids.NodeId.{NodeId}
use Rattle.serial_pass.specs.declared.plan.Plan.{Plan}
use Rattle.serial_pass.specs.Orders.{IsLegal, numbers}
use Rattle.ready_counters.specs.Receipts.{ReceiptView}
use Rattle.pass_ways.specs.declared.error.WayError.{WayError}
use Rattle.pass_ways.specs.declared.error.WayError.TheVariants.{At, Refused, OutOfMemory}
use Rattle.pass_ways.specs.declared.idle_run.IdleRun.{IdleRun}
use Rattle.pass_ways.specs.declared.way.Way.{Way}
use Rattle.pass_ways.specs.declared.way.Way.TheVariants.{Workers, Lines}
use Rattle.pass_ways.specs.Stretches.{most_in_stretch, joined_stretches, IsPlanOfStretches}
use Rattle.pass_ways.specs.Ways.{Follows, RefusesPass, Runs}

-- A receipt shows an order that so many workers followed: a legal order was cut in stretches, the receipt is that of a
-- board of the plan of these, and they stand one behind the other as the receipt has them.
pub record ShowsOrder (workers : ℕ) (plan : Plan) (order : List NodeId) (receipt : ReceiptView) : Type 0 where
  pub base : List NodeId
  pub legal : IsLegal plan (numbers base)
  pub size : ℕ
  pub positive : 0 < size
  pub fair : size ≤ most_in_stretch plan.count workers
  pub planned : IsPlanOfStretches plan size (numbers base) receipt.plan
  pub joined : order ≡ joined_stretches size base (numbers receipt.order)

-- An order that so many workers followed has a receipt that shows it. That of one worker needs none.
abbrev pub IsShownFor : ℕ → Plan → List NodeId → Option ReceiptView → Type 0
IsShownFor workers plan order None = workers ≡ 1
IsShownFor workers plan order (Some receipt) = ShowsOrder workers plan order receipt

-- The same of a way. Lines show nothing but what they say.
abbrev pub IsShownBy : {G : Type 0} → Way G → Plan → List NodeId → Option ReceiptView → Type 0
IsShownBy (Workers workers gate) plan order receipt = IsShownFor workers plan order receipt
IsShownBy (Lines order_lines) plan order receipt = ⊤

module _ (Follows : List (ℕ × NodeId) → Type 0) (Refuses : List (ℕ × NodeId) → ℕ → Plan → Fault → Type 0) where
  -- Visits that make nothing answer the order that was followed, or a refusal of the way's own, or that memory ran
  -- out. No node has a fault.
  abbrev pub AnswersIdleOrder : Plan → ℕ → List (ℕ × NodeId) → Result (List NodeId) WayError → Type 0
  AnswersIdleOrder plan pass before (Ok order) = Runs Follows plan pass before order
  AnswersIdleOrder plan pass before (Err (At n fault)) = ⊥
  AnswersIdleOrder plan pass before (Err (Refused fault)) = Refuses before pass plan fault
  AnswersIdleOrder plan pass before (Err OutOfMemory) = ⊤

module _ {G : Type 0} where
  -- The same of a way, with what shows the order.
  abbrev pub AnswersIdle : Way G → Plan → ℕ → List (ℕ × NodeId) → Result (IdleRun G) WayError → Type 0
  AnswersIdle way plan pass before (Ok run) =
      Runs (Follows way) plan pass before run.order × IsShownBy way plan run.order run.receipt
  AnswersIdle way plan pass before (Err (At n fault)) = ⊥
  AnswersIdle way plan pass before (Err (Refused fault)) = RefusesPass way before pass plan fault
  AnswersIdle way plan pass before (Err OutOfMemory) = ⊤
