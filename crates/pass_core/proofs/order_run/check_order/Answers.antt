use Rattle.std.proofs.Common.{◌≡◌, ◌<◌, length, get_or, arith, rules}
use Rattle.std.proofs.lemmas.List.{length-map, get_or-map}
use Rattle.bp_faults.specs.declared.ids.NodeId.{NodeId}
use Rattle.serial_pass.specs.Orders.{numbers}
use Rattle.pass_core.proofs.Listed.{checked_none, index_small, ready_shows, refused_at, checked_more, short_if}
use Rattle.pass_core.proofs.Listed.{legal_if}
use Rattle.pass_core.proofs.order_run.check_order.Goals as goal

pub loop-index-init : goal.loop-index-init
loop-index-init c = rw c.in_ok-visited.ensures (checked_none c.args.plan.now (numbers c.args.order.now))

pub overflow_cast-result : goal.overflow_cast-result
overflow_cast-result c =
    let small = index_small c.args.plan.now
    (numbers c.args.order.now) c.loop-index.index c.loop-index.visited.items c.loop-index.invariant in
    search rules

pub returns-then-not-is_ready : goal.returns-then-not-is_ready
returns-then-not-is_ready c =
    let d : NodeId = record { 0 = 0 } in
    let n = (get_or c.args.order.now c.loop-index.index d).0 in
    let lt : c.loop-index.index < length (numbers c.args.order.now) =
    omega (arith, length-map c.args.order.now (λ (n : NodeId). n.0)) in
    let here = get_or-map (λ (n : NodeId). n.0) c.args.order.now c.loop-index.index d 0 c.loop-index-test.true in
    let says = rw c.deref.ensures.value at c.is_ready.ensures in
    refused_at c.args.plan.now
    (numbers c.args.order.now) c.loop-index.index c.loop-index.visited.items c.loop-index.invariant n lt here
    (λ ready. let yes = says.1 (ready_shows c.args.plan.now
    (numbers c.args.order.now) c.loop-index.index c.loop-index.visited.items c.loop-index.invariant n lt here ready) in
    let no = c.if-not-is_ready.true in
    cc)

pub loop-index-preserved : goal.loop-index-preserved
loop-index-preserved c =
    let d : NodeId = record { 0 = 0 } in
    let n = (get_or c.args.order.now c.loop-index.index d).0 in
    let lt : c.loop-index.index < length (numbers c.args.order.now) =
    omega (arith, length-map c.args.order.now (λ (n : NodeId). n.0)) in
    let here = get_or-map (λ (n : NodeId). n.0) c.args.order.now c.loop-index.index d 0 c.loop-index-test.true in
    let says = rw c.deref.ensures.value at c.is_ready.ensures in
    let is = says.0 c.if-not-is_ready.false in
    checked_more c.args.plan.now (numbers c.args.order.now) c.loop-index.index c.loop-index.visited.items
    c.loop-index.invariant n lt here is.0 is.1 is.2

pub returns-then-order-plan : goal.returns-then-order-plan
returns-then-order-plan c =
    let whole : c.loop-index.index ≡ length (numbers c.args.order.now) =
    omega (arith, length-map c.args.order.now (λ (n : NodeId). n.0)) in
    rw (← length-map c.args.order.now (λ (n : NodeId). n.0))
    (short_if c.args.plan.now (numbers c.args.order.now) c.loop-index.index c.loop-index.visited.items
    c.loop-index.invariant whole (omega (arith, length-map c.args.order.now (λ (n : NodeId). n.0))))

pub returns : goal.returns
returns c =
    let whole : c.loop-index.index ≡ length (numbers c.args.order.now) =
    omega (arith, length-map c.args.order.now (λ (n : NodeId). n.0)) in
    legal_if c.args.plan.now (numbers c.args.order.now) c.loop-index.index c.loop-index.visited.items
    c.loop-index.invariant whole (omega (arith, length-map c.args.order.now (λ (n : NodeId). n.0)))
