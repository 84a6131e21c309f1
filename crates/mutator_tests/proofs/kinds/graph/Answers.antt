use Rattle.std.proofs.Common.{◌≡◌, ◌∙◌, ◌∷◌, [], ap, arith, length, List, subst, sym, Some}
use Rattle.std.specs.Prelude.{slice_get}
use Rattle.std.proofs.lemmas.List.{length-append}
use Rattle.bp_faults.specs.declared.ids.NodeId.{NodeId}
use Rattle.bp_faults.proofs.Lists.{all_pushed}
use Rattle.graph_nodes.specs.declared.graph.Node.{Node}
use Rattle.graph_nodes.specs.declared.variation.Variation.TheVariants.{Empty}
use Rattle.graph_nodes.specs.declared.variations.Axis.TheVariants.{PerSource}
use Rattle.variant_graphs.specs.Splitting.{HasFreeAxis}
use Rattle.mutator_tests.specs.Kinds.{OwnModules}
use Rattle.mutator_tests.proofs.Tested.{own_pushed}
use Rattle.mutator_tests.proofs.kinds.graph.Goals as goal

pub loop-n-preserved : goal.loop-n-preserved
loop-n-preserved c =
    let items = c.in_ok-push.ensures.items in
    let at = c.loop-n.invariant.2 in
    let longer = ap length items ∙ length-append c.loop-n.nodes.items (_ ∷ []) in (
      subst (λ (l : List (Node NodeId)). OwnModules 0 l) (sym items)
          (own_pushed 0 c.loop-n.nodes.items _ c.loop-n.invariant.0 (omega (arith, at))),
      subst (λ (l : List (Node NodeId)). HasFreeAxis PerSource l) (sym items)
          (all_pushed (λ (x : Node NodeId). slice_get x.vars 3 ≡ Some Empty) c.loop-n.nodes.items _ c.loop-n.invariant.1
          (ap (λ v. slice_get v 3) c.empty.ensures)),
      omega (arith, longer, at),
    )
