use Rattle.std.proofs.Common.{arith}
use Rattle.module_graph.specs.Planned.{directed_edge}
use Rattle.module_graph.proofs.Numbers.{piece_done}
use Rattle.module_graph.proofs.edges.edges_along.Goals as goal

pub loop-node-preserved : goal.loop-node-preserved
loop-node-preserved g c = (
  omega arith,
  piece_done c.one_more_item.ensures (directed_edge c.args.dir) (λ x. x.edges) c.as_slice-node-items.result.now
      c.loop-node.node-index c.loop-node.n c.node-item.result c.as_slice-edge-items.result.now c.loop-edge.edge-index
      c.loop-edge.edges.items c.loop-node-test.true c.node-item.is c.as_slice-edge-items.ensures c.loop-edge-test.false
      c.loop-edge.invariant.0 c.loop-edge.invariant.1,
)
