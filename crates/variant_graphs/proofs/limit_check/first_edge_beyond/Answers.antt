use Rattle.std.proofs.Common.{◌≡◌, ◌<◌, ap, ◌∙◌, length, get_or, arith}
use Rattle.variant_graphs.proofs.Counted.{behind_edges, counted_beyond}
use Rattle.variant_graphs.proofs.limit_check.first_edge_beyond.Goals as goal

pub returns-in-Some : goal.returns-in-Some
returns-in-Some g c =
    let nodes = c.args.g.now.nodes in
    let k = c.loop-node.node-index in
    let node = c.node-item.result in
    let count = ap length c.as_slice-node-items.ensures in
    let lt : k < length nodes = omega arith in
    let is : node ≡ get_or nodes k node = c.node-item.is ∙ ap (λ l. get_or l k node) c.as_slice-node-items.ensures in
    counted_beyond nodes k c.loop-node.left node c.as_slice-edges.result.now lt is c.as_slice-edges.ensures
    c.in-Some.beyond.now c.in-Some.ensures.lookup.3.0 c.in-Some.ensures.lookup.1 c.loop-node.invariant

pub loop-node-preserved : goal.loop-node-preserved
loop-node-preserved g c =
    let nodes = c.args.g.now.nodes in
    let k = c.loop-node.node-index in
    let node = c.node-item.result in
    let count = ap length c.as_slice-node-items.ensures in
    let lt : k < length nodes = omega arith in
    let is : node ≡ get_or nodes k node = c.node-item.is ∙ ap (λ l. get_or l k node) c.as_slice-node-items.ensures in
    behind_edges nodes k c.loop-node.left node c.as_slice-edges.result.now lt is c.as_slice-edges.ensures
    _ c.in_default.ensures.lookup.3 c.loop-node.invariant
