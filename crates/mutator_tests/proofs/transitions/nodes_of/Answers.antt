use Rattle.std.proofs.Common.{◌≡◌, ◌+◌, ◌∷◌, [], List, ap, arith, length, subst, sym}
use Rattle.std.proofs.lemmas.List.{length-append}
use Rattle.bp_faults.specs.declared.ids.NodeId.{NodeId}
use Rattle.graph_nodes.specs.declared.graph.Node.{Node}
use Rattle.mutator_tests.specs.Transitions.{HasNodes, IsNodeOf}
use Rattle.mutator_tests.proofs.BareNodes.{has_pushed}
use Rattle.mutator_tests.proofs.transitions.nodes_of.Goals as goal

pub loop-n-preserved : goal.loop-n-preserved
loop-n-preserved c =
    let count = length c.args.targets.now in
    let nodes = c.loop-n.nodes.items in
    let x = c.in_ok-node_of.field-0 in
    let pushed = c.in_ok-push.ensures.items in
    let many = c.loop-n.invariant.0 in
    let longer = ap length pushed in
    let more = length-append c.loop-n.nodes.items (c.in_ok-node_of.field-0 ∷ []) in
    let at : c.loop-n.n ≡ 0 + length c.loop-n.nodes.items = omega arith in (
      omega arith,
      subst (λ (l : List (Node NodeId)). HasNodes count 0 l) (sym pushed)
          (has_pushed count 0 nodes x c.loop-n.invariant.1
          (subst (λ n. IsNodeOf count n x) at c.in_ok-node_of.ensures)),
    )
