-- How a step ends whose pass has no results.
use Rattle.std.proofs.Common.{◌≡◌, ℕ, List, map, Result, Ok, Err, subst, sym}
use Rattle.std.specs.Prelude.{IfOk, IsErr, IsErrAnd}
use Rattle.std.specs.Arc.{arc_value}
use Rattle.bp_faults.specs.declared.fault.Fault.{Fault}
use Rattle.bp_faults.specs.declared.ids.NodeId.{NodeId}
use Rattle.serial_pass.specs.declared.plan.Plan.{Plan}
use Rattle.serial_pass.specs.Outcomes.{PassOutcomeMeans}
use Rattle.mutator_rules.specs.Outcomes.{KindOutcome, FaultAt}
use Rattle.pass_ways.specs.declared.error.WayError.{WayError}
use Rattle.pass_ways.specs.declared.error.WayError.TheVariants.{At, Refused, OutOfMemory}
use Rattle.pass_ways.specs.declared.way.Way.{Way}
use Rattle.pass_ways.specs.declared.way_run.WayRun.{WayRun}
use Rattle.pass_ways.specs.Ways.{AnswersWay, Follows, RefusesPass, Runs}
use Rattle.variant_graphs.specs.declared.error.StepError.{StepError}
use Rattle.variant_graphs.specs.Steps.{AnswersStep, FollowedMeans, step_error}

module _ {W O : Type 0} (way : Way W) (mean : ℕ → List O → Result O Fault) (plan : Plan) (pass : ℕ)
    (before : List (ℕ × NodeId)) where
  abbrev failed : WayError → Result (WayRun O) WayError
  failed error = Err error

  module _ {T G : Type 0} (view : T → G) (Means : KindOutcome G → Type 0)
      (faults : (n : ℕ) (fault : Fault) → PassOutcomeMeans mean plan (Err (n, fault)) → Means (FaultAt n fault)) where
    ends : (error : WayError) → AnswersWay way mean plan pass before (failed error)
        → AnswersStep view Means (RefusesPass way before pass plan) (Err (step_error error))
    ends (At n fault) h = faults n.0 fault h.0
    ends (Refused fault) h = h
    ends OutOfMemory h = tt

    pub pass_ends : (error : WayError) (r : Result T StepError) → AnswersWay way mean plan pass before (failed error)
        → IsErr r → IsErrAnd r (λ e. e ≡ step_error error)
        → AnswersStep view Means (RefusesPass way before pass plan) r
    pass_ends error (Ok x) h err eq = cc
    pass_ends error (Err e) h err eq =
        subst (λ x. AnswersStep view Means (RefusesPass way before pass plan) (Err x)) (sym eq) (ends error h)

  module _ {T : Type 0} (order_of : T → List NodeId) where
    followed : (error : WayError) → AnswersWay way mean plan pass before (failed error)
        → FollowedMeans order_of (Runs (Follows way) plan pass before) (Err (step_error error))
    followed (At n fault) h = h.1
    followed (Refused fault) h = tt
    followed OutOfMemory h = tt

    pub pass_followed : (error : WayError) (r : Result T StepError)
        → AnswersWay way mean plan pass before (failed error) → IsErr r → IsErrAnd r (λ e. e ≡ step_error error)
        → FollowedMeans order_of (Runs (Follows way) plan pass before) r
    pass_followed error (Ok x) h err eq = cc
    pass_followed error (Err e) h err eq =
        subst (λ x. FollowedMeans order_of (Runs (Follows way) plan pass before) (Err x)) (sym eq) (followed error h)

  -- what holds of every whole outcome holds of the results of an answer
  pub if_ok_outs : (Q : List O → Type 0) → ((outs : List O) → PassOutcomeMeans mean plan (Ok outs) → Q outs)
      → (r : Result (WayRun O) WayError) → AnswersWay way mean plan pass before r
      → IfOk r (λ run'. Q (map arc_value run'.outs.items))
  if_ok_outs Q h (Ok run') a = h (map arc_value run'.outs.items) a.0
  if_ok_outs Q h (Err error) a = tt
