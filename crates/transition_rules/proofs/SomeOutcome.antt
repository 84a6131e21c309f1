-- Each step of a transition comes to something for every valid graph.
use Rattle.std.proofs.Common.{◌⊎◌, inl, inr, ℕ, List, Result, Ok, Err, refl}
use Rattle.bp_faults.specs.declared.fault.Fault.{Fault}
use Rattle.bp_faults.specs.declared.ids.ModuleId.{ModuleId}
use Rattle.bp_faults.specs.declared.place.Place.{Place}
use Rattle.serial_pass.specs.Laws.{OneOutcome}
use Rattle.graph_nodes.specs.declared.graph.Node.{Node}
use Rattle.graph_nodes.specs.declared.variation.Variation.{Variation}
use Rattle.module_graph.specs.declared.direction.Direction.TheVariants.{BottomUp, TopDown}
use Rattle.module_graph.specs.Graphs.{IsNumbered, IsValid}
use Rattle.module_graph.specs.Laws.{PlansOfGraphsArePlans, ValidPlansHaveNoCycle}
use Rattle.module_graph.specs.Planned.{plan_of}
use Rattle.mutator_rules.specs.Meaning.{TransitionMeaning}
use Rattle.mutator_rules.specs.Outcomes.{KindOutcome, Made, FaultAt, NodesBeyond, EdgesBeyond}
use Rattle.variant_graphs.specs.Laws.{LimitsTell}
use Rattle.variant_graphs.specs.Limits.{IsWithinLimits, IsFirstNodeBeyond, IsFirstEdgeBeyond}
use Rattle.variant_graphs.specs.Payloads.{with_payloads}
use Rattle.transition_rules.specs.Passes.{MutatedMeans, WantsMeans, MutateMeans, WantsMean, varied_graph}
use Rattle.transition_rules.specs.Wants.{variations_meant}

module _ {P : Type 0} (plans : PlansOfGraphsArePlans P) (acyclic : ValidPlansHaveNoCycle P) (m : TransitionMeaning P)
    (nodes : List (Node P)) (numbered : IsNumbered nodes) (valid : IsValid nodes) where
  abbrev Mutated : Type 0
  Mutated = (outcome : KindOutcome (List (Node P))) × MutateMeans m nodes outcome

  mutated_by : (o : Result (List P) (ℕ × Fault)) → MutatedMeans m nodes o → Mutated
  mutated_by (Ok outs) is = (Made (with_payloads nodes outs), (outs, is, refl))
  mutated_by (Err at) is = (FaultAt at.0 at.1, is)

  pub some_mutate : OneOutcome P → Mutated
  some_mutate one =
      let pass = one (m.mutate nodes) (plan_of BottomUp nodes) (plans nodes BottomUp numbered)
      (acyclic nodes BottomUp valid) in
      mutated_by pass.0 pass.1

  abbrev Wanted : Type 0
  Wanted = (outcome : KindOutcome (List (Node P))) × WantsMean m nodes outcome

  within_by : (lists : List (List Variation)) → WantsMeans m nodes (Ok lists)
      → IsWithinLimits (varied_graph m nodes lists)
      ⊎ (((at : ModuleId) × IsFirstNodeBeyond (varied_graph m nodes lists) at)
      ⊎ ((at : Place) × IsFirstEdgeBeyond (varied_graph m nodes lists) at))
      → Wanted
  within_by lists is (inl within) = (Made (varied_graph m nodes lists), (lists, is, within, refl))
  within_by lists is (inr (inl beyond)) = (NodesBeyond beyond.0, (lists, is, beyond.1))
  within_by lists is (inr (inr beyond)) = (EdgesBeyond beyond.0, (lists, is, beyond.1))

  module _ (tell : LimitsTell P) where
    wanted_by : (o : Result (List (List Variation)) (ℕ × Fault)) → WantsMeans m nodes o → Wanted
    wanted_by (Ok lists) is = within_by lists is (tell (varied_graph m nodes lists))
    wanted_by (Err at) is = (FaultAt at.0 at.1, is)

    pub some_wants : OneOutcome (List Variation) → Wanted
    some_wants one =
        let pass = one (variations_meant m nodes) (plan_of TopDown nodes) (plans nodes TopDown numbered)
        (acyclic nodes TopDown valid) in
        wanted_by pass.0 pass.1
