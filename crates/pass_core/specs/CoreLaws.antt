-- What holds of the core machine after every list of allowed steps, whatever a visitor means.
use Rattle.std.specs.Prelude.{◌≡◌, ◌≢◌, ◌<◌, ◌+◌, ◌*◌, ℕ, List, map, length, slice_get, Some, Result}
use Rattle.std.specs.List.{AllPairs, range_with_len}
use Rattle.bp_faults.specs.declared.fault.Fault.{Fault}
use Rattle.serial_pass.specs.declared.plan.Plan.{Plan}
use Rattle.pass_core.specs.declared.step.Step.{Step}
use Rattle.serial_pass.specs.Plans.{IsPlan, HasNoCycle}
use Rattle.serial_pass.specs.Results.{NodeResult, node_result}
use Rattle.pass_core.specs.CoreStates.{CoreState, from_of, to_of, IsMarked, visit_result, Allows, IsReached, IsFinished}
use Rattle.pass_core.specs.CoreStates.{entries}

module _ (O : Type 0) where
  -- It holds of each state that allowed steps reach, in a pass over any plan without a cycle.
  abbrev pub AfterAnySteps : ((ℕ → List O → Result O Fault) → Plan → List Step → CoreState O → Type 0) → Type 0
  AfterAnySteps Holds =
      (mean : ℕ → List O → Result O Fault) (plan : Plan) (steps : List Step) (s : CoreState O)
      → IsPlan plan → HasNoCycle plan.edges → IsReached mean plan steps s → Holds mean plan steps s

  -- Each filled edge holds the result of its source.
  abbrev pub FilledHoldResults : Type 0
  FilledHoldResults = AfterAnySteps (λ mean plan steps s.
      (e : ℕ) (r : NodeResult O) → slice_get s.filled e ≡ Some (Some r) → r ≡ node_result mean plan (from_of plan e))

  -- No step is taken twice: no node is claimed twice, and no edge is filled, subtracted or fetched twice.
  abbrev pub NoStepTwice : Type 0
  NoStepTwice = AfterAnySteps (λ mean plan steps s. AllPairs (λ t u. t ≢ u) steps)

  -- The in-edges of a claimed node are all subtracted.
  abbrev pub ClaimedAfterInEdges : Type 0
  ClaimedAfterInEdges = AfterAnySteps (λ mean plan steps s.
      (e : ℕ) → e < length plan.edges → IsMarked s.claimed (to_of plan e) → IsMarked s.subtracted e)

  -- Every step adds one entry.
  abbrev pub StepsAreEntries : Type 0
  StepsAreEntries = AfterAnySteps (λ mean plan steps s. entries s ≡ length steps)

  -- A pass of n nodes and m edges is finished after n + 3 m steps and not before.
  abbrev pub FinishedByCount : Type 0
  FinishedByCount = AfterAnySteps (λ mean plan steps s.
      (IsFinished plan s → length steps ≡ plan.count + 3 * length plan.edges)
      × (length steps ≡ plan.count + 3 * length plan.edges → IsFinished plan s))

  -- Where a pass isn't finished some step is allowed.
  abbrev pub NeverStuck : Type 0
  NeverStuck = AfterAnySteps (λ mean plan steps s. (IsFinished plan s → ⊥) → (t : Step) × Allows plan s t)

  -- What the visits of a finished pass made is the node results, by node number.
  abbrev pub FinishedHasResults : Type 0
  FinishedHasResults = AfterAnySteps (λ mean plan steps s.
      IsFinished plan s
      → map (visit_result mean plan s) (range_with_len 0 plan.count)
      ≡ map (node_result mean plan) (range_with_len 0 plan.count))
