use Rattle.serial_pass.specs.declared.plan.PlanEdge.{PlanEdge}
use Rattle.pass_ways.proofs.Linked.{marked_more}
use Rattle.pass_ways.proofs.stretches.mark_sources.Goals as goal

pub loop-edge-preserved : goal.loop-edge-preserved
loop-edge-preserved c =
    let d : PlanEdge = record { from = record { 0 = 0 }; to = record { 0 = 0 } } in
    marked_more c.args.edges.now c.args.table.now c.args.marks.now c.loop-edge.marks c.loop-edge.edge-index d
    c.loop-edge-test.true
    c.requires.below c.loop-edge.invariant.0 c.loop-edge.invariant.1
