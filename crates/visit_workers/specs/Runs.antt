-- What a pass on many workers answers.
use Rattle.std.specs.Prelude.{◌≡◌, ℕ, List, Result, Ok, Err}
use Rattle.bp_faults.specs.declared.fault.Fault.{Fault}
use Rattle.serial_pass.specs.declared.plan.Plan.{Plan}
use Rattle.serial_pass.specs.declared.error.PassError.{PassError}
use Rattle.serial_pass.specs.Orders.{IsLegal, numbers}
use Rattle.serial_pass.specs.Outcomes.{AnswersPass}
use Rattle.visit_workers.specs.declared.pass_run.PassRun.{PassRun}

module _ {V O : Type 0} where
  -- It answers as every pass: the results of all nodes by number, the fault of the first in serial order, or that
  -- memory ran out. Beside the results there are a legal order, and the receipt for that order of this plan.
  abbrev pub AnswersRun : (ℕ → List O → Result O Fault) → Plan → Result (PassRun V O) PassError → Type 0
  AnswersRun mean plan (Ok run) = AnswersPass mean plan (Ok run.outs) × IsLegal plan (numbers run.order.items)
      × (run.receipt.plan ≡ plan) × (run.receipt.order ≡ run.order.items)
  AnswersRun mean plan (Err error) = AnswersPass mean plan (Err error)
