use Rattle.std.proofs.Common.{◌<◌, ◌≤◌, ◌/◌, length, get_or, arith, rules, sym, subst}
use Rattle.std.proofs.Math.Nat.{div-le_self}
use Rattle.std.proofs.lemmas.List.{length-map, get_or-map}
use Rattle.bp_faults.specs.declared.ids.NodeId.{NodeId}
use Rattle.serial_pass.specs.Orders.{numbers}
use Rattle.pass_ways.proofs.Linked.{node_inside, tells_more}
use Rattle.pass_ways.proofs.Told.{legal_whole}
use Rattle.pass_ways.proofs.stretches.stretch_numbers.Goals as goal

pub overflow_cast-index : goal.overflow_cast-index
overflow_cast-index c =
    let whole = legal_whole c.args.plan.now (numbers c.args.order.now) c.requires.legal in
    let many = length-map c.args.order.now (λ (n : NodeId). n.0) in
    let low = div-le_self c.loop-index.index c.args.size in
    let small : c.loop-index.index / c.args.size ≤ c.args.plan.now.count = omega (arith, whole, many, low) in search
    rules

pub index_mut-requires : goal.index_mut-requires
index_mut-requires c =
    let d : NodeId = record { 0 = 0 } in
    let inside : (get_or c.args.order.now c.loop-index.index d).0 < c.args.plan.now.count = node_inside c.args.plan.now
    c.args.order.now c.loop-index.index d c.requires.legal c.loop-index-test.true in
    let many = c.loop-index.invariant.many in let ok = c.loop-index.table.ok in search rules

pub loop-index-preserved : goal.loop-index-preserved
loop-index-preserved c =
    let d : NodeId = record { 0 = 0 } in
    let n = (get_or c.args.order.now c.loop-index.index d).0 in
    let within : c.loop-index.index < length (numbers c.args.order.now) = omega (
      arith,
      length-map c.args.order.now (λ
          (m : NodeId). m.0),
    ) in
    let inside : n < length c.loop-index.table.items = subst (λ l. n < l) (sym c.loop-index.invariant.many)
    (node_inside c.args.plan.now c.args.order.now c.loop-index.index d c.requires.legal c.loop-index-test.true) in
    tells_more c.args.plan.now (numbers c.args.order.now) c.loop-index.table.items c.args.size c.loop-index.index n
    c.requires.legal within
    (get_or-map (λ (m : NodeId). m.0) c.args.order.now c.loop-index.index d 0 c.loop-index-test.true) inside
    c.loop-index.invariant
