-- What a step answers that is run some way.
use Rattle.std.specs.Prelude.{List, Result, Ok, Err, ⊤}
use Rattle.bp_faults.specs.declared.fault.Fault.{Fault}
use Rattle.bp_faults.specs.declared.ids.NodeId.{NodeId}
use Rattle.mutator_rules.specs.declared.error.KindError.TheVariants.{At, Nodes, Edges, OutOfMemory}
use Rattle.mutator_rules.specs.Outcomes.{KindOutcome, Made, AnswersKind}
use Rattle.pass_ways.specs.declared.error.WayError.{WayError}
use Rattle.pass_ways.specs.declared.error.WayError.TheVariants.{At as AtNode, Refused as RefusedPass}
use Rattle.pass_ways.specs.declared.error.WayError.TheVariants.{OutOfMemory as Want}
use Rattle.variant_graphs.specs.declared.error.StepError.{StepError}
use Rattle.variant_graphs.specs.declared.error.StepError.TheVariants.{Refused, Kind}

-- What the error of a pass that is run some way is among the errors of a step.
abbrev pub step_error : WayError → StepError
step_error (AtNode n fault) = Kind (At n fault)
step_error (RefusedPass fault) = Refused fault
step_error Want = Kind OutOfMemory

-- An answer is an outcome that is meant, as the view shows it, or a fault that the way refuses with.
abbrev pub AnswersStep : {T G : Type 0} → (T → G) → (KindOutcome G → Type 0) → (Fault → Type 0) → Result T StepError
    → Type 0
AnswersStep view Means Refuses (Ok made) = Means (Made (view made))
AnswersStep view Means Refuses (Err (Refused fault)) = Refuses fault
AnswersStep view Means Refuses (Err (Kind error)) = AnswersKind view Means (Err error)

-- Some order was followed, and it is the one that an answer tells. Nothing is said where the way refuses.
abbrev pub FollowedMeans : {T : Type 0} → (T → List NodeId) → (List NodeId → Type 0) → Result T StepError → Type 0
FollowedMeans order_of Runs (Ok made) = Runs (order_of made)
FollowedMeans order_of Runs (Err (Refused fault)) = ⊤
FollowedMeans order_of Runs (Err (Kind (At n fault))) = (order : List NodeId) × Runs order
FollowedMeans order_of Runs (Err (Kind (Nodes m))) = (order : List NodeId) × Runs order
FollowedMeans order_of Runs (Err (Kind (Edges p))) = (order : List NodeId) × Runs order
FollowedMeans order_of Runs (Err (Kind OutOfMemory)) = ⊤
