use Rattle.std.proofs.Common.{◌<◌, take, get_or, rules}
use Rattle.bp_faults.specs.declared.ids.NodeId.{NodeId}
use Rattle.serial_pass.specs.Results.{node_result}
use Rattle.serial_pass.specs.Orders.{numbers}
use Rattle.serial_pass.proofs.Along.{all_filled, outs_right}
use Rattle.serial_pass.proofs.AlongLegal.{inside_at, ready_at, made_next, each_taken}
use Rattle.serial_pass.proofs.serial.visit_along.Goals as goal

pub visit_at-requires-clause-takes : goal.visit_at-requires-clause-takes
visit_at-requires-clause-takes g c =
    c.requires.takes _ (inside_at c.args.plan.now c.args.order.now c.requires.legal c.loop-n.n-index c.loop-n-test.true)

pub visit_at-requires-clause-inside : goal.visit_at-requires-clause-inside
visit_at-requires-clause-inside g c =
    inside_at c.args.plan.now c.args.order.now c.requires.legal c.loop-n.n-index c.loop-n-test.true

pub visit_at-requires-clause-ready : goal.visit_at-requires-clause-ready
visit_at-requires-clause-ready g c =
    rw c.deref.ensures.value
    (ready_at c.args.plan.now c.args.order.now c.requires.legal c.loop-n.n-index c.loop-n-test.true
    (g.V.Visit.meaning c.args.v.now) c.loop-n.made.items c.loop-n.invariant)

pub index_mut-requires : goal.index_mut-requires
index_mut-requires g c =
    let inside : (get_or c.args.order.now c.loop-n.n-index (record { 0 = 0 })).0 < c.args.plan.now.count =
    inside_at c.args.plan.now c.args.order.now c.requires.legal c.loop-n.n-index c.loop-n-test.true in
    let many = c.loop-n.invariant.many in let ok = c.loop-n.made.ok in search rules

pub loop-n-preserved : goal.loop-n-preserved
loop-n-preserved g c =
    made_next c.args.plan.now c.args.order.now c.requires.legal c.loop-n.n-index c.loop-n-test.true
    (g.V.Visit.meaning c.args.v.now) c.loop-n.made.items c.loop-n.invariant
    c.in-Ok.out c.in-Ok.ensures

pub unwrapped-requires : goal.unwrapped-requires
unwrapped-requires g c =
    all_filled (node_result (g.V.Visit.meaning c.args.v.now) c.args.plan.now) c.args.plan.now.count
    (take c.loop-n.n-index (numbers c.args.order.now)) c.loop-n.made.items c.loop-n.invariant
    (each_taken c.args.plan.now c.args.order.now c.requires.legal c.loop-n.n-index c.loop-n-test.false
    c.loop-n.auto.n-index-end)

pub returns-clause-outs : goal.returns-clause-outs
returns-clause-outs g c =
    outs_right (node_result (g.V.Visit.meaning c.args.v.now) c.args.plan.now) c.args.plan.now.count
    (take c.loop-n.n-index (numbers c.args.order.now)) c.loop-n.made.items c.loop-n.invariant
    c.in_ok-unwrapped.field-0.items c.in_ok-unwrapped.ensures

pub returns-in-Err-At-clause-fault : goal.returns-in-Err-At-clause-fault
returns-in-Err-At-clause-fault g c =
    let bad = rw c.in-Err-At.field-0-is at c.in-Err-At.ensures in
    let d : NodeId = record { 0 = 0 } in (
      (get_or c.args.order.now c.loop-n.n-index d).0,
      inside_at c.args.plan.now c.args.order.now c.requires.legal c.loop-n.n-index c.loop-n-test.true,
      (_, bad.1),
    )
