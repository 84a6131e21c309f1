-- What each step of a transition makes of a graph is fit for the next rule.
use Rattle.std.proofs.Common.{ℕ, List, Some, None, ap, subst, sym}
use Rattle.graph_nodes.specs.declared.graph.Node.{Node}
use Rattle.graph_nodes.specs.declared.variation.Variation.{Variation}
use Rattle.module_graph.specs.Graphs.{IsValid}
use Rattle.mutator_rules.specs.Conditions.{MayRun, indices_in}
use Rattle.mutator_rules.specs.Meaning.{TransitionMeaning}
use Rattle.mutator_rules.specs.Outcomes.{Made}
use Rattle.variant_graphs.specs.Laws.{IsKept, SplitsStayValid, SplitsKeepModules, OtherAxesStayFree}
use Rattle.variant_graphs.specs.Laws.{NewPayloadsStayValid, NewPayloadsKeepModules, NewPayloadsLeaveAxesFree}
use Rattle.variant_graphs.specs.Payloads.{with_payloads}
use Rattle.variant_graphs.specs.Splitting.{splitting, HasFreeAxis}
use Rattle.transition_rules.specs.Laws.{WantsSplit}
use Rattle.transition_rules.specs.Passes.{wanted_variants, varied_graph, MutateMeans, SplitsDiffer, WantsMean}
use Rattle.transition_rules.proofs.Answered.{may_run_on}

module _ {P : Type 0} (m : TransitionMeaning P) (nodes new : List (Node P)) (count : ℕ) (valid : IsValid nodes)
    (may : MayRun (indices_in count) nodes) where
  pub mutate_keeps : NewPayloadsStayValid P → NewPayloadsKeepModules P → NewPayloadsLeaveAxesFree P
      → MutateMeans m nodes (Made new) → IsKept count None nodes new
  mutate_keeps stay_valid keep_modules leave_free (outs, results, is) =
      subst (IsKept count None nodes) (sym is) (record {
        valid = stay_valid nodes outs valid;
        may = may_run_on (indices_in count) nodes (with_payloads nodes outs) may
            (keep_modules nodes outs may.numbered);
        free = λ axis other free. leave_free nodes outs axis free;
      })

  pub wants_keep : WantsSplit P → SplitsStayValid P Variation → SplitsKeepModules P Variation
      → OtherAxesStayFree P Variation → HasFreeAxis m.axis nodes → SplitsDiffer m nodes → WantsMean m nodes (Made new)
      → IsKept count (Some m.axis) nodes new
  wants_keep splits stay_valid keep_modules stay_free free differ (lists, wants, within, is) =
      let split = splitting (wanted_variants m nodes) lists in
      let may_split = splits m nodes lists may.numbered valid differ wants in
      subst (IsKept count (Some m.axis) nodes) (sym is) (record {
        valid = stay_valid split nodes valid free may_split;
        may = may_run_on (indices_in count) nodes (varied_graph m nodes lists) may
            (keep_modules split nodes may.numbered may_split within);
        free = λ axis other axis_free. stay_free split nodes axis (λ same. other (ap Some (sym same))) axis_free;
      })
