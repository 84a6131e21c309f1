use Rattle.std.proofs.Common.{◌<◌, sym, subst, take, get_or, rules}
use Rattle.serial_pass.specs.Results.{node_result}
use Rattle.serial_pass.specs.Outcomes.{AnswersPass}
use Rattle.serial_pass.specs.Orders.{numbers}
use Rattle.serial_pass.proofs.Along.{inside_at, ready_at, refused_at, made_next, all_filled, each_taken, outs_right}
use Rattle.serial_pass.proofs.Along.{err_of}
use Rattle.serial_pass.proofs.serial.run_along.Goals as goal

pub visit_at-requires-clause-takes : goal.visit_at-requires-clause-takes
visit_at-requires-clause-takes g c =
    c.requires.takes _
    (inside_at c.args.plan.now c.args.order.now c.requires.serial c.loop-n.n-index _ c.loop-n-test.true)

pub visit_at-requires-clause-inside : goal.visit_at-requires-clause-inside
visit_at-requires-clause-inside g c =
    inside_at c.args.plan.now c.args.order.now c.requires.serial c.loop-n.n-index _ c.loop-n-test.true

pub visit_at-requires-clause-ready : goal.visit_at-requires-clause-ready
visit_at-requires-clause-ready g c =
    rw c.deref.ensures.value
    (ready_at c.args.plan.now c.args.order.now c.requires.serial c.loop-n.n-index _ c.loop-n-test.true
    (g.V.Visit.meaning c.args.v.now) c.requires.plan c.requires.free c.loop-n.made.items c.loop-n.invariant)

pub returns-in_err-out : goal.returns-in_err-out
returns-in_err-out g c =
    let e = err_of c.from_residual-in_err-out.result c.in_err-out.field-0.0 c.from_residual-in_err-out.ensures.0
    c.from_residual-in_err-out.ensures.1 in
    subst (λ r. AnswersPass (g.V.Visit.meaning c.args.v.now) c.args.plan.now r) (sym e)
    (refused_at c.args.plan.now c.args.order.now c.requires.serial c.loop-n.n-index _ c.loop-n-test.true
    (g.V.Visit.meaning c.args.v.now) c.requires.plan c.requires.free c.loop-n.made.items c.loop-n.invariant
    c.in_err-out.field-0.0 c.in_err-out.ensures)

pub index_mut-requires : goal.index_mut-requires
index_mut-requires g c =
    let inside : (get_or c.args.order.now c.loop-n.n-index (record { 0 = 0 })).0 < c.args.plan.now.count =
    inside_at c.args.plan.now c.args.order.now c.requires.serial c.loop-n.n-index _ c.loop-n-test.true in
    let many = c.loop-n.invariant.many in let ok = c.loop-n.made.ok in search rules

pub loop-n-preserved : goal.loop-n-preserved
loop-n-preserved g c =
    made_next c.args.plan.now c.args.order.now c.requires.serial c.loop-n.n-index _ c.loop-n-test.true
    (g.V.Visit.meaning c.args.v.now) c.requires.plan c.requires.free c.loop-n.made.items c.loop-n.invariant
    c.in_ok-out.out c.in_ok-out.ensures

pub unwrapped-requires : goal.unwrapped-requires
unwrapped-requires g c =
    all_filled (node_result (g.V.Visit.meaning c.args.v.now) c.args.plan.now) c.args.plan.now.count
    (take c.loop-n.n-index (numbers c.args.order.now)) c.loop-n.made.items c.loop-n.invariant
    (each_taken c.args.plan.now c.args.order.now c.requires.serial c.loop-n.n-index c.loop-n-test.false
    c.loop-n.auto.n-index-end)

pub returns : goal.returns
returns g c =
    outs_right (node_result (g.V.Visit.meaning c.args.v.now) c.args.plan.now) c.args.plan.now.count
    (take c.loop-n.n-index (numbers c.args.order.now)) c.loop-n.made.items c.loop-n.invariant
    c.in_ok-unwrapped.field-0.items c.in_ok-unwrapped.ensures
