use Rattle.bp_faults.proofs.Lists.{same_at}
use Rattle.graph_picture.proofs.Outside.{first_is}
use Rattle.graph_picture.proofs.read.first_outside.Goals as goal

pub returns-then-arrow-count : goal.returns-then-arrow-count
returns-then-arrow-count c =
    let lt = c.loop-index-test.true in
    first_is c.args.count c.args.edges.now c.loop-index.index _ lt
    (same_at c.args.edges.now c.loop-index.index _ _ lt) c.loop-index.invariant c.if-arrow-count.true
