use Rattle.graph_nodes.specs.declared.graph.EdgeKind.TheVariants.{Defaults}
use Rattle.module_graph.proofs.Least.{least_step}
use Rattle.module_graph.proofs.settled.least_target.Goals as goal

pub loop-edge-preserved : goal.loop-edge-preserved
loop-edge-preserved c =
    least_step c.args.numbers.now c.args.edges.now c.loop-edge.edge-index
    (record { kind = Defaults; to = record { 0 = 0 }; at = record { file = 0; line = 0; col = 0 } }) c.loop-edge.least
    c.lesser-least.result
    c.loop-edge-test.true c.loop-edge.invariant c.lesser-least.ensures
