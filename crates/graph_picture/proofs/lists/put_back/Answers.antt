use Rattle.std.proofs.Common.{◌<◌, get_or, length, arith}
use Rattle.bp_faults.proofs.Lists.{same_at}
use Rattle.graph_picture.proofs.Turned.{back_more, back_none}
use Rattle.graph_picture.proofs.lists.put_back.Goals as goal

pub bounds-back-m : goal.bounds-back-m
bounds-back-m c =
    let list = c.args.list.now in
    let i = c.loop-m.m-index in
    let lt = c.loop-m-test.true in
    omega (arith, c.requires _ (i, lt, same_at list i _ 0 lt))

pub loop-m-init : goal.loop-m-init
loop-m-init c = back_none c.args.n c.args.back.now

pub loop-m-preserved : goal.loop-m-preserved
loop-m-preserved c =
    let list = c.args.list.now in
    let i = c.loop-m.m-index in
    let lt = c.loop-m-test.true in
    let inside : get_or list i 0 < length c.loop-m.back = omega (arith, c.requires _ (i, lt, same_at list i _ 0 lt)) in
    back_more c.args.n c.args.back.now c.loop-m.back list i _ lt (same_at list i 0 _ lt) c.loop-m.invariant
    inside _ c.push.new.self (same_at c.loop-m.back _ c.index-back-m.result _ inside) c.in_ok-push.ensures.ok
