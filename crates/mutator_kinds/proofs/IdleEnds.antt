-- How a step ends whose visits make nothing.
use Rattle.std.proofs.Common.{◌≡◌, subst, sym, ℕ, List, Result, Ok, Err}
use Rattle.std.specs.Prelude.{IsErr, IsErrAnd}
use Rattle.bp_faults.specs.declared.ids.NodeId.{NodeId}
use Rattle.serial_pass.specs.declared.plan.Plan.{Plan}
use Rattle.mutator_rules.specs.declared.error.KindError.{KindError}
use Rattle.mutator_rules.specs.declared.error.KindError.TheVariants.{At, Nodes, Edges, OutOfMemory}
use Rattle.mutator_rules.specs.Outcomes.{KindOutcome}
use Rattle.pass_ways.specs.declared.error.WayError.{WayError}
use Rattle.pass_ways.specs.declared.error.WayError.TheVariants.{At as AtNode, Refused as RefusedPass}
use Rattle.pass_ways.specs.declared.error.WayError.TheVariants.{OutOfMemory as Want}
use Rattle.pass_ways.specs.declared.idle_run.IdleRun.{IdleRun}
use Rattle.pass_ways.specs.declared.way.Way.{Way}
use Rattle.pass_ways.specs.Idle.{AnswersIdle}
use Rattle.pass_ways.specs.Ways.{Follows, RefusesPass, Runs}
use Rattle.variant_graphs.specs.declared.error.StepError.{StepError}
use Rattle.variant_graphs.specs.declared.error.StepError.TheVariants.{Kind}
use Rattle.variant_graphs.specs.Steps.{AnswersStep, FollowedMeans, step_error}

module _ {T W : Type 0} (order_of : T → List NodeId) (way : Way W) (plan : Plan) (pass : ℕ)
    (before : List (ℕ × NodeId)) where
  abbrev StepFollows : Result T StepError → Type 0
  StepFollows = FollowedMeans order_of (Runs (Follows way) plan pass before)

  -- by the way's refusal, or for that memory ran out
  module _ {G : Type 0} (view : T → G) (Means : KindOutcome G → Type 0) where
    abbrev StepAnswers : Result T StepError → Type 0
    StepAnswers = AnswersStep view Means (RefusesPass way before pass plan)

    abbrev unvisited : WayError → Result (IdleRun W) WayError
    unvisited error = Err error

    refused : (error : WayError) → AnswersIdle way plan pass before (unvisited error)
        → StepAnswers (Err (step_error error)) × StepFollows (Err (step_error error))
    refused (AtNode n fault) h = absurd h
    refused (RefusedPass fault) h = (h, tt)
    refused Want h = (tt, tt)

    pub way_ends : (error : WayError) (r : Result T StepError) → AnswersIdle way plan pass before (unvisited error)
        → IsErr r → IsErrAnd r (λ e. e ≡ step_error error) → StepAnswers r × StepFollows r
    way_ends error (Ok x) h err eq = cc
    way_ends error (Err e) h err eq =
        subst (λ x. StepAnswers (Err x) × StepFollows (Err x)) (sym eq) (refused error h)

  -- or beyond the limits, once all nodes were visited
  followed_beyond : (error : KindError) (order : List NodeId) → Runs (Follows way) plan pass before order
      → StepFollows (Err (Kind error))
  followed_beyond (At n fault) order runs = (order, runs)
  followed_beyond (Nodes m) order runs = (order, runs)
  followed_beyond (Edges p) order runs = (order, runs)
  followed_beyond OutOfMemory order runs = tt

  pub limits_followed : (error : KindError) (r : Result T StepError) (order : List NodeId)
      → Runs (Follows way) plan pass before order
      → IsErr r → IsErrAnd r (λ e. e ≡ Kind error) → StepFollows r
  limits_followed error (Ok x) order runs err eq = cc
  limits_followed error (Err e) order runs err eq =
      subst (λ x. StepFollows (Err x)) (sym eq) (followed_beyond error order runs)
