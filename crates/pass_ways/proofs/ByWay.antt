-- What a pass without workers answers, as a way answers it that refuses nothing.
use Rattle.std.proofs.Common.{ℕ, List, Result, Ok, Err}
use Rattle.bp_faults.specs.declared.fault.Fault.{Fault}
use Rattle.bp_faults.specs.declared.ids.NodeId.{NodeId}
use Rattle.serial_pass.specs.declared.plan.Plan.{Plan}
use Rattle.serial_pass.specs.Orders.{IsLegal, numbers}
use Rattle.pass_ways.specs.declared.error.WayError.{WayError}
use Rattle.pass_ways.specs.declared.error.WayError.TheVariants.{At, Refused, OutOfMemory}
use Rattle.pass_ways.specs.declared.way_run.WayRun.{WayRun}
use Rattle.pass_ways.specs.Inside.{AnswersAlone}
use Rattle.pass_ways.specs.Ways.{AnswersBy}

pub answers_by_way : {O : Type 0} → (Follows : List (ℕ × NodeId) → Type 0)
    → (Refuses : List (ℕ × NodeId) → ℕ → Plan → Fault → Type 0) → (mean : ℕ → List O → Result O Fault) → (plan : Plan)
    → (pass : ℕ) → (before : List (ℕ × NodeId)) → (result : Result (WayRun O) WayError)
    → ((made : List (ℕ × NodeId)) → Follows made) → ((order : List NodeId) × IsLegal plan (numbers order))
    → AnswersAlone mean plan result → AnswersBy Follows Refuses mean plan pass before result
answers_by_way Follows Refuses mean plan pass before (Ok run) all legal alone = (alone.0, (alone.1, all _))
answers_by_way Follows Refuses mean plan pass before (Err (At n fault)) all legal alone = (
  alone,
  (
    legal.0,
    (
      legal.1,
      all _,
    ),
  ),
)
answers_by_way Follows Refuses mean plan pass before (Err (Refused fault)) all legal alone = absurd alone
answers_by_way Follows Refuses mean plan pass before (Err OutOfMemory) all legal alone = tt
