use Rattle.graph_nodes.specs.declared.graph.EdgeKind.TheVariants.{Defaults}
use Rattle.module_graph.proofs.Nearer.{nearest_step}
use Rattle.module_graph.proofs.nearest.nearest.Goals as goal

pub loop-edge-preserved : goal.loop-edge-preserved
loop-edge-preserved c =
    nearest_step c.args.found.now c.args.edges.now c.loop-edge.edge-index
    (record { kind = Defaults; to = record { 0 = 0 }; at = record { file = 0; line = 0; col = 0 } }) c.loop-edge.best
    c.better-best.result c.loop-edge-test.true c.loop-edge.invariant c.better-best.ensures
