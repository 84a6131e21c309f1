use Rattle.std.proofs.Common.{◌+◌, ap, arith, length}
use Rattle.bp_pipeline.proofs.Counting.{edges_more, edges_within}
use Rattle.bp_pipeline.proofs.sizes.edge_count.Goals as goal

pub overflow_cast-count : goal.overflow_cast-count
overflow_cast-count c =
    let nodes = c.args.nodes.now in
    let k = c.loop-node.node-index in
    let more = edges_more nodes k c.node-item.result c.loop-node-test.true c.node-item.is in
    let all = edges_within nodes (k + 1) in
    let here = ap length c.as_slice.ensures in
    let few = c.requires in
    omega (arith, more, all, here, few)

pub overflow_add-count : goal.overflow_add-count
overflow_add-count c =
    let nodes = c.args.nodes.now in
    let k = c.loop-node.node-index in
    let more = edges_more nodes k c.node-item.result c.loop-node-test.true c.node-item.is in
    let all = edges_within nodes (k + 1) in
    let here = ap length c.as_slice.ensures in
    let few = c.requires in
    let count = c.loop-node.invariant in
    omega (arith, more, all, here, few, count)
