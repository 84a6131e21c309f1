-- Each kind makes something of every valid graph.
use Rattle.std.proofs.Common.{◌⊎◌, inl, inr, ℕ, List, Option, Result, Ok, Err, refl}
use Rattle.bp_faults.specs.declared.fault.Fault.{Fault}
use Rattle.bp_faults.specs.declared.ids.ModuleId.{ModuleId}
use Rattle.bp_faults.specs.declared.ids.NodeId.{NodeId}
use Rattle.bp_faults.specs.declared.place.Place.{Place}
use Rattle.serial_pass.specs.Laws.{OneOutcome}
use Rattle.serial_pass.specs.Outcomes.{PassOutcomeMeans}
use Rattle.graph_nodes.specs.declared.graph.EdgeKind.{EdgeKind}
use Rattle.graph_nodes.specs.declared.graph.Node.{Node}
use Rattle.graph_nodes.specs.declared.variations.Axis.{Axis}
use Rattle.module_graph.specs.declared.direction.Direction.TheVariants.{BottomUp, TopDown}
use Rattle.module_graph.specs.Graphs.{IsNumbered, IsValid}
use Rattle.module_graph.specs.Laws.{PlansOfGraphsArePlans, ValidPlansHaveNoCycle}
use Rattle.module_graph.specs.Planned.{plan_of}
use Rattle.mutator_rules.specs.declared.request.Request.{Request}
use Rattle.mutator_rules.specs.declared.split.Split.{Split}
use Rattle.mutator_rules.specs.Outcomes.{KindOutcome, Made, FaultAt, NodesBeyond, EdgesBeyond}
use Rattle.variant_graphs.specs.Laws.{LimitsTell}
use Rattle.variant_graphs.specs.Limits.{IsWithinLimits, IsFirstNodeBeyond, IsFirstEdgeBeyond}
use Rattle.variant_graphs.specs.Payloads.{with_payloads}
use Rattle.mutator_kinds.specs.BottomUp.{asked_of, new_nodes, BottomUpMeans}
use Rattle.mutator_kinds.specs.TopDown.{from_above, TopDownMeans}

module _ {P : Type 0} (plans : PlansOfGraphsArePlans P) (acyclic : ValidPlansHaveNoCycle P) (nodes : List (Node P))
    (numbered : IsNumbered nodes) (valid : IsValid nodes) where
  module _ (one : OneOutcome P) (mean : List (Node P) → ℕ → List EdgeKind → List P → Result P Fault) where
    abbrev Down : Type 0
    Down = (outcome : KindOutcome (List (Node P))) × TopDownMeans mean nodes outcome

    down_by : (o : Result (List P) (ℕ × Fault)) → PassOutcomeMeans (from_above mean nodes) (plan_of TopDown nodes) o
        → Down
    down_by (Ok outs) is = (Made (with_payloads nodes outs), (outs, is, refl))
    down_by (Err at) is = (FaultAt at.0 at.1, is)

    pub some_top_down : Down
    some_top_down =
        let pass = one (from_above mean nodes) (plan_of TopDown nodes) (plans nodes TopDown numbered)
        (acyclic nodes TopDown valid) in
        down_by pass.0 pass.1

  module _ (one : OneOutcome (Split P)) (tell : LimitsTell P)
      (mean : List (Node P) → ℕ → List (Split P) → Result (Split P) Fault) (along : Option Axis) where
    abbrev Up : Type 0
    Up = (outcome : KindOutcome (List (Node P) × List (NodeId × Request))) × BottomUpMeans mean nodes along outcome

    within_by : (outs : List (Split P)) → PassOutcomeMeans (mean nodes) (plan_of BottomUp nodes) (Ok outs)
        → IsWithinLimits (new_nodes along nodes outs)
        ⊎ (((m : ModuleId) × IsFirstNodeBeyond (new_nodes along nodes outs) m)
        ⊎ ((p : Place) × IsFirstEdgeBeyond (new_nodes along nodes outs) p))
        → Up
    within_by outs is (inl within) =
        (Made (new_nodes along nodes outs, asked_of outs), (outs, is, (within, refl, refl)))
    within_by outs is (inr (inl beyond)) = (NodesBeyond beyond.0, (outs, is, beyond.1))
    within_by outs is (inr (inr beyond)) = (EdgesBeyond beyond.0, (outs, is, beyond.1))

    up_by : (o : Result (List (Split P)) (ℕ × Fault)) → PassOutcomeMeans (mean nodes) (plan_of BottomUp nodes) o → Up
    up_by (Ok outs) is = within_by outs is (tell (new_nodes along nodes outs))
    up_by (Err at) is = (FaultAt at.0 at.1, is)

    pub some_bottom_up : Up
    some_bottom_up =
        let pass = one (mean nodes) (plan_of BottomUp nodes) (plans nodes BottomUp numbered)
        (acyclic nodes BottomUp valid) in
        up_by pass.0 pass.1
