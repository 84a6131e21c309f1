use Rattle.std.proofs.Common.{arith, get_or, ◌<◌, sym, subst, refl, true, false}
use Rattle.serial_pass.specs.declared.plan.PlanEdge.{PlanEdge}
use Rattle.pass_core.proofs.Marks.{not_both}
use Rattle.pass_core.proofs.Readied.{mark_read, source_below, marked_one_more, marked_source, marked_whole}
use Rattle.pass_core.proofs.order_run.is_ready.Goals as goal

pub bounds-visited-edge : goal.bounds-visited-edge
bounds-visited-edge c =
    let d : PlanEdge = record { from = record { 0 = 0 }; to = record { 0 = 0 } } in
    rw c.requires.many (source_below c.args.plan.now.edges c.edges_into-edge-items.result.now c.args.plan.now.count
    c.args.n.0 c.requires.plan.ends c.edges_into-edge-items.ensures c.loop-edge.edge-index d c.loop-edge-test.true
    c.predecessors_are_nodes.ensures)

pub returns-then-not-visited-edge : goal.returns-then-not-visited-edge
returns-then-not-visited-edge c =
    let d : PlanEdge = record { from = record { 0 = 0 }; to = record { 0 = 0 } } in
    let k = (get_or c.edges_into-edge-items.result.now c.loop-edge.edge-index d).from.0 in
    let lt : k < c.args.plan.now.count =
    source_below c.args.plan.now.edges c.edges_into-edge-items.result.now c.args.plan.now.count c.args.n.0
    c.requires.plan.ends c.edges_into-edge-items.ensures c.loop-edge.edge-index d c.loop-edge-test.true
    c.predecessors_are_nodes.ensures in (
      (λ no. cc),
      λ is. absurd (not_both c.args.visited.now k
          (marked_source c.args.plan.now.edges c.edges_into-edge-items.result.now c.args.plan.now.count c.args.n.0
          c.requires.plan.ends c.edges_into-edge-items.ensures c.loop-edge.edge-index d c.loop-edge-test.true
          c.args.visited.now is.2)
          (mark_read c.args.visited.now k false
          (subst (λ x. k < x) (sym c.requires.many) lt) c.if-not-visited-edge.true)),
    )

pub loop-edge-preserved : goal.loop-edge-preserved
loop-edge-preserved c =
    let d : PlanEdge = record { from = record { 0 = 0 }; to = record { 0 = 0 } } in
    let k = (get_or c.edges_into-edge-items.result.now c.loop-edge.edge-index d).from.0 in
    let lt : k < c.args.plan.now.count =
    source_below c.args.plan.now.edges c.edges_into-edge-items.result.now c.args.plan.now.count c.args.n.0
    c.requires.plan.ends c.edges_into-edge-items.ensures c.loop-edge.edge-index d c.loop-edge-test.true
    c.predecessors_are_nodes.ensures in
    marked_one_more c.args.plan.now.edges c.edges_into-edge-items.result.now c.args.plan.now.count c.args.n.0
    c.requires.plan.ends c.edges_into-edge-items.ensures c.loop-edge.edge-index d c.loop-edge-test.true
    c.args.visited.now c.loop-edge.invariant
    (mark_read c.args.visited.now k true (subst (λ x. k < x) (sym c.requires.many) lt) c.if-not-visited-edge.false)

pub returns : goal.returns
returns c =
    let inside : c.args.n.0 < c.args.plan.now.count = omega arith in (
      (λ yes. (
        inside,
        mark_read c.args.visited.now c.args.n.0 false
            (subst (λ x. c.args.n.0 < x) (sym c.requires.many) inside) c.if-visited-n.false,
        marked_whole c.args.plan.now.edges c.edges_into-edge-items.result.now c.args.n.0 c.loop-edge.edge-index
            c.args.visited.now c.edges_into-edge-items.ensures c.loop-edge.auto.edge-index-end c.loop-edge-test.false
            c.loop-edge.invariant,
      )),
      λ h. refl,
    )
