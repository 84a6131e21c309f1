use Rattle.graph_nodes.proofs.Lines.{node_lines_more}
use Rattle.graph_nodes.proofs.listing.graph_text.Goals as goal

pub loop-n-preserved : goal.loop-n-preserved
loop-n-preserved g c =
    node_lines_more c.as_slice-node-items.result.now c.args.names.now c.loop-n.n c.node-item.result _ _
    c.loop-n-test.true c.node-item.is c.loop-n.invariant c.in_ok-put_lines.ensures
