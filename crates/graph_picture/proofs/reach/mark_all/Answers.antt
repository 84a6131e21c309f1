use Rattle.std.proofs.Common.{arith}
use Rattle.bp_faults.proofs.Lists.{same_at}
use Rattle.graph_picture.proofs.Growth.{listed_more}
use Rattle.graph_picture.proofs.reach.mark_all.Goals as goal

pub mark-requires : goal.mark-requires
mark-requires c =
    let list = c.args.list.now in
    let i = c.loop-n.n-index in
    let lt = c.loop-n-test.true in
    omega (arith, c.requires _ (i, lt, same_at list i _ 0 lt))

pub loop-n-preserved : goal.loop-n-preserved
loop-n-preserved c =
    let list = c.args.list.now in
    let i = c.loop-n.n-index in
    let lt = c.loop-n-test.true in
    listed_more list i _ _ _ _ _ _ _ lt (same_at list i 0 _ lt) c.loop-n.invariant c.in_ok-mark.ensures
