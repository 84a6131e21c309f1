use Rattle.std.proofs.Common.{◌+◌, ◌∙◌, arith}
use Rattle.serial_pass.specs.declared.plan.PlanEdge.{PlanEdge}
use Rattle.serial_pass.specs.Heights.{height}
use Rattle.serial_pass.proofs.Climbing.{source_below, source_lower, read_is, read_none, above_more, ord_max_is}
use Rattle.serial_pass.proofs.Climbing.{height_whole}
use Rattle.serial_pass.proofs.height.height_of.Goals as goal

abbrev zero_edge : PlanEdge
zero_edge = record { from = record { 0 = 0 }; to = record { 0 = 0 } }

pub bounds : goal.bounds
bounds c =
    rw c.requires.settled.many (source_below c.args.plan.now c.requires.plan c.requires.free c.args.n.0
    c.requires.inside c.edges_into-edge-items.result.now c.edges_into-edge-items.ensures c.loop-edge.edge-index
    zero_edge c.loop-edge-test.true)

pub overflow_add-below : goal.overflow_add-below
overflow_add-below c =
    let lower = source_lower c.args.plan.now c.requires.plan c.requires.free c.args.n.0 c.requires.inside
    c.edges_into-edge-items.result.now c.edges_into-edge-items.ensures c.loop-edge.edge-index zero_edge
    c.loop-edge-test.true in
    let is = read_is c.args.plan.now c.requires.plan c.requires.free c.args.n.0 c.requires.inside
    c.edges_into-edge-items.result.now c.edges_into-edge-items.ensures c.loop-edge.edge-index zero_edge
    c.loop-edge-test.true
    c.args.settled.now c.requires.settled c.in-Some.below c.in-Some.is in
    omega arith

pub unreachable-requires : goal.unreachable-requires
unreachable-requires c =
    read_none c.args.plan.now c.requires.plan c.requires.free c.args.n.0 c.requires.inside
    c.edges_into-edge-items.result.now c.edges_into-edge-items.ensures c.loop-edge.edge-index zero_edge
    c.loop-edge-test.true
    c.args.settled.now c.requires.settled c.requires.ready c.in-None.is

pub loop-edge-preserved : goal.loop-edge-preserved
loop-edge-preserved c =
    let is = read_is c.args.plan.now c.requires.plan c.requires.free c.args.n.0 c.requires.inside
    c.edges_into-edge-items.result.now c.edges_into-edge-items.ensures c.loop-edge.edge-index zero_edge
    c.loop-edge-test.true
    c.args.settled.now c.requires.settled c.in-Some.below c.in-Some.is in
    let more = above_more (height c.args.plan.now) c.edges_into-edge-items.result.now c.loop-edge.edge-index zero_edge
    c.loop-edge-test.true in
    let greatest = ord_max_is c.loop-edge.height (c.in-Some.below + 1) in
    let before = c.loop-edge.invariant in
    cc

pub returns : goal.returns
returns c =
    c.loop-edge.invariant
    ∙ height_whole c.args.plan.now c.requires.plan c.requires.free c.args.n.0 c.requires.inside
    c.edges_into-edge-items.result.now c.edges_into-edge-items.ensures c.loop-edge.edge-index
    c.loop-edge.auto.edge-index-end c.loop-edge-test.false
