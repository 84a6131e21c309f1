use Rattle.std.proofs.Common.{◌<◌, subst, length, arith, get_or, rules}
use Rattle.serial_pass.specs.declared.plan.PlanEdge.{PlanEdge}
use Rattle.ready_counters.proofs.Opening.{edge_to, found_small, first_more_as}
use Rattle.ready_counters.proofs.words.first_words.Goals as goal

abbrev blank : PlanEdge
blank = record { from = record { 0 = 0 }; to = record { 0 = 0 } }

pub index_mut-requires : goal.index_mut-requires
index_mut-requires c =
    let v = c.as_slice-edges.ensures in
    let inside : c.loop-edge.edge-index < length c.args.plan.now.edges =
    subst (λ xs. c.loop-edge.edge-index < length xs) v c.loop-edge-test.true in
    let t = edge_to c.args.plan.now.edges c.as_slice-edges.result.now c.loop-edge.edge-index blank v inside in
    let n = c.requires.ends c.loop-edge.edge-index inside in let m = c.loop-edge.invariant.0 in
    let k : (get_or c.as_slice-edges.result.now c.loop-edge.edge-index blank).to.0 < length c.loop-edge.words.items =
    omega arith in search (rules, k)

pub overflow_add-index_mut : goal.overflow_add-index_mut
overflow_add-index_mut c =
    let h = found_small c.args.plan.now.count
    (length c.args.plan.now.edges) c.args.plan.now.edges c.as_slice-edges.result.now c.loop-edge.words.items
    c.loop-edge.edge-index c.index_mut.result.now blank
    c.as_slice-edges.ensures c.loop-edge-test.true c.requires.ends c.loop-edge.invariant c.index_mut.ensures.value in
    let f = c.requires.few in search (rules, arith)

pub loop-edge-preserved : goal.loop-edge-preserved
loop-edge-preserved c =
    first_more_as c.args.plan.now.count
    (length c.args.plan.now.edges) c.args.plan.now.edges c.as_slice-edges.result.now c.loop-edge.words.items
    c.loop-edge.edge-index c.index_mut.result.now blank
    c.as_slice-edges.ensures c.loop-edge-test.true c.requires.ends c.loop-edge.invariant c.index_mut.ensures.value
