use Rattle.std.proofs.Common.{Bool, List, subst, arith}
use Rattle.std.proofs.lemmas.Bool.Decides.{nat_tests}
use Rattle.graph_nodes.specs.declared.graph.Node.{Node}
use Rattle.module_graph.specs.Graphs.{IsNumbered}
use Rattle.pass_tests.proofs.Numbered.{so_far_more, all_numbered}
use Rattle.pass_tests.proofs.graphs.is_numbered.Goals as goal

pub loop-node-preserved : goal.loop-node-preserved
loop-node-preserved c =
    so_far_more c.one_more_node.ensures c.as_slice-nodes.result.now c.loop-node.node-index c.loop-node.many
    c.node-item.result c.as_slice-edges.result.now
    c.loop-node-test.true c.node-item.is c.as_slice-edges.ensures c.loop-node.invariant
    (c.lead_inside.ensures c.if-not-lead_inside.false) (omega arith)

pub returns : goal.returns
returns c told =
    subst (λ (nodes : List (Node Bool)). IsNumbered nodes) c.as_slice-nodes.ensures
    (all_numbered c.as_slice-nodes.result.now c.loop-node.node-index c.loop-node.many c.loop-node-test.false
    c.loop-node.invariant (grind (arith, nat_tests, told)))
