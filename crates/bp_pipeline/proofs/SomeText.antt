-- What is generated of modules has an outcome, since each of its phases has.
use Rattle.std.proofs.Common.{◌≡◌, ◌≤◌, ℕ, List, Result, Ok, Err, length, refl, arith}
use Rattle.bp_faults.specs.declared.fault.Fault.{Fault}
use Rattle.bp_faults.specs.declared.limits.TheConstants.{MOST_MODULES}
use Rattle.bp_faults.specs.Phases.{HasOutcome}
use Rattle.bp_faults.proofs.Phases.{then_some}
use Rattle.bp_props.specs.declared.module.Module.{Module}
use Rattle.bp_props.specs.declared.props.Props.{Props}
use Rattle.build_actions.specs.declared.actions.Actions.{Actions}
use Rattle.build_actions.specs.Acts.{acts_at}
use Rattle.build_actions.specs.File.{file_of_actions}
use Rattle.module_graph.specs.declared.direction.Direction.TheVariants.{BottomUp}
use Rattle.module_graph.specs.Laws.{PlansOfGraphsArePlans, ValidPlansHaveNoCycle}
use Rattle.module_graph.specs.Planned.{plan_of}
use Rattle.mutator_rules.specs.declared.config.Config.{Config}
use Rattle.mutator_rules.specs.Configs.{TargetsDiffer}
use Rattle.serial_pass.specs.declared.plan.Plan.{Plan}
use Rattle.serial_pass.specs.Laws.{OneOutcome}
use Rattle.serial_pass.specs.Outcomes.{PassOutcomeMeans, PassMeans}
use Rattle.serial_pass.specs.Plans.{HasNoCycle, IsPlan}
use Rattle.bp_pipeline.specs.Course.{GraphAfter}
use Rattle.bp_pipeline.specs.Generated.{ActionsMean, FileMeans, TextMeans, text_within_limit}
use Rattle.bp_pipeline.specs.Laws.{SomeGraph, GraphsAreValid}
use Rattle.bp_pipeline.specs.Mutators.{mutator_count}
use Rattle.bp_pipeline.specs.Passes.{Outcome}

-- A pass over a plan without a cycle means something.
pub pass_some : {O : Type 0} → OneOutcome O → (mean : ℕ → List O → Result O Fault) (plan : Plan) → IsPlan plan
    → HasNoCycle plan.edges → HasOutcome (PassMeans mean plan)
pass_some {O} one mean plan is_plan free = let made = one mean plan is_plan free in by made.0 made.1
  where
    by : (outcome : Result (List O) (ℕ × Fault)) → PassOutcomeMeans mean plan outcome → HasOutcome (PassMeans mean plan)
    by (Ok outs) is = (Ok outs, is)
    by (Err at) is = (Err at.1, (at.0, is))

module _ (graph : SomeGraph) (valid : GraphsAreValid) (one : OneOutcome Actions) (plans : PlansOfGraphsArePlans Props)
    (acyclic : ValidPlansHaveNoCycle Props) (mods : List Module) (c : Config) (few : length mods ≤ MOST_MODULES)
    (differ : TargetsDiffer c) where
  pub actions_some : HasOutcome (ActionsMean mods c)
  actions_some = let first = graph mods c mutator_count few differ (omega arith) in by first.0 first.1
    where
      by : (first : Outcome) → GraphAfter mods c mutator_count first → HasOutcome (ActionsMean mods c)
      by (Ok nodes) means =
          let fit = valid mods c mutator_count nodes few differ (omega arith) means in
          let made = pass_some one (acts_at mods nodes) (plan_of BottomUp nodes) (plans nodes BottomUp fit.1.numbered)
          (acyclic nodes BottomUp fit.0) in
          (made.0, (Ok nodes, means, made.1))
      by (Err fault) means = (Err fault, (Err fault, means, refl))

  pub file_some : HasOutcome (FileMeans mods c)
  file_some =
      then_some (ActionsMean mods c) (λ made outcome. Ok (file_of_actions made) ≡ outcome) actions_some
      (λ made. (Ok (file_of_actions made), refl))

  pub text_some : HasOutcome (TextMeans mods c)
  text_some =
      then_some (FileMeans mods c) (λ file outcome. text_within_limit file ≡ outcome) file_some
      (λ file. (text_within_limit file, refl))
