-- What each kind makes of a graph is fit for the next rule.
use Rattle.std.proofs.Common.{ℕ, List, Option, None, Result, subst, sym}
use Rattle.bp_faults.specs.declared.fault.Fault.{Fault}
use Rattle.bp_faults.specs.declared.ids.NodeId.{NodeId}
use Rattle.serial_pass.specs.declared.plan.Plan.{Plan}
use Rattle.serial_pass.specs.Laws.{OutsAreMany, OutsMeetTheirEquation}
use Rattle.graph_nodes.specs.declared.graph.EdgeKind.{EdgeKind}
use Rattle.graph_nodes.specs.declared.graph.Node.{Node}
use Rattle.graph_nodes.specs.declared.variation.Variation.{Variation}
use Rattle.graph_nodes.specs.declared.variations.Axis.{Axis}
use Rattle.module_graph.specs.declared.direction.Direction.TheVariants.{BottomUp}
use Rattle.module_graph.specs.Graphs.{IsValid}
use Rattle.module_graph.specs.Laws.{PlansOfGraphsArePlans, ValidPlansHaveNoCycle}
use Rattle.module_graph.specs.Planned.{plan_of}
use Rattle.mutator_rules.specs.declared.request.Request.{Request}
use Rattle.mutator_rules.specs.declared.split.Split.{Split}
use Rattle.mutator_rules.specs.Conditions.{MayRun, indices_in}
use Rattle.mutator_rules.specs.Outcomes.{Made}
use Rattle.variant_graphs.specs.Laws.{IsKept, SplitsStayValid, SplitsKeepModules, OtherAxesStayFree}
use Rattle.variant_graphs.specs.Laws.{NewPayloadsStayValid, NewPayloadsKeepModules, NewPayloadsLeaveAxesFree}
use Rattle.variant_graphs.specs.Payloads.{with_payloads}
use Rattle.mutator_kinds.specs.BottomUp.{new_nodes, BottomUpMeans, DifferFor, IsFreeFor}
use Rattle.mutator_kinds.specs.TopDown.{TopDownMeans}
use Rattle.mutator_kinds.proofs.Fit.{all_outs, differ_outs, valid_after, modules_after, free_after}
use Rattle.mutator_kinds.proofs.May.{may_still}

module _ {P : Type 0} (payloads_valid : NewPayloadsStayValid P) (payloads_modules : NewPayloadsKeepModules P)
    (payloads_free : NewPayloadsLeaveAxesFree P) (nodes : List (Node P)) (count : ℕ) (valid : IsValid nodes)
    (may : MayRun (indices_in count) nodes) where
  pub top_down_keeps : (mean : List (Node P) → ℕ → List EdgeKind → List P → Result P Fault) (new : List (Node P))
      → TopDownMeans mean nodes (Made new) → IsKept count None nodes new
  top_down_keeps mean new (outs, results, is) =
      subst (IsKept count None nodes) (sym is) (record {
        valid = payloads_valid nodes outs valid;
        may = may_still (indices_in count) nodes (with_payloads nodes outs) may
            (payloads_modules nodes outs may.numbered);
        free = λ axis other free. payloads_free nodes outs axis free;
      })

  module _ (splits_valid : SplitsStayValid P (Variation × P)) (splits_modules : SplitsKeepModules P (Variation × P))
      (splits_free : OtherAxesStayFree P (Variation × P)) (many : OutsAreMany (Split P))
      (equation : OutsMeetTheirEquation (Split P)) (plans : PlansOfGraphsArePlans P) (acyclic : ValidPlansHaveNoCycle P)
      (mean : List (Node P) → ℕ → List (Split P) → Result (Split P) Fault) (along : Option Axis)
      (free : IsFreeFor along nodes) (differ : DifferFor mean nodes along) where
    pub bottom_up_keeps : (new : List (Node P) × List (NodeId × Request))
        → BottomUpMeans mean nodes along (Made new) → IsKept count along nodes new.0
    bottom_up_keeps new (outs, visits, results) =
        let plan : Plan = plan_of BottomUp nodes in
        let as_many = many (mean nodes) plan outs visits in
        let apart = differ_outs mean nodes outs
        (λ Q each. all_outs (mean nodes) plan outs equation (plans nodes BottomUp may.numbered)
        (acyclic nodes BottomUp valid) visits as_many Q (λ n ins out lt h. each n ins out lt h))
        along differ in
        subst (IsKept count along nodes) (sym results.1) (record {
          valid = valid_after nodes outs as_many along splits_valid payloads_valid valid free apart;
          may = may_still (indices_in count) nodes (new_nodes along nodes outs) may
              (modules_after nodes outs as_many along splits_modules payloads_modules may.numbered apart results.0);
          free = free_after nodes outs as_many along splits_free payloads_free;
        })
