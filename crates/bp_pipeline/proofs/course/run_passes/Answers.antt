use Rattle.std.proofs.Common.{◌+◌, arith}
use Rattle.bp_pipeline.specs.Journals.{plan_at}
use Rattle.bp_pipeline.proofs.Visited.{visits_more}
use Rattle.bp_pipeline.proofs.Stepping.{step_more, step_refused}
use Rattle.bp_pipeline.proofs.course.run_passes.Goals as goal

pub returns-in_err-graph-clause-course : goal.returns-in_err-graph-clause-course
returns-in_err-graph-clause-course g c =
    step_refused c.args.shop.now c.loop-number.number c.loop-number.graph.nodes c.loop-number.journal.items
    c.step.new.journal.items c.loop-number.invariant.0 c.args.to c.loop-number-test.true c.requires.last
    c.in_err-graph.field-0.0 c.from_residual.result c.from_residual.ensures.1 c.in_err-graph.ensures.tells
    c.step.new.journal.items

pub loop-number-preserved : goal.loop-number-preserved
loop-number-preserved g c =
    let below = c.loop-number-test.true in
    let last = c.requires.last in
    let more =
    step_more c.args.shop.now c.loop-number.number c.loop-number.graph.nodes c.loop-number.journal.items
    c.step.new.journal.items c.loop-number.invariant.0 c.in_ok-graph.graph c.in_ok-graph.ensures.tells in (
      more.0,
      record {
        start = c.loop-number.invariant.1.start;
        follows = more.1;
        usable = c.in_ok-graph.ensures.usable;
      },
      c.in_ok-graph.ensures.free,
      visits_more (plan_at c.loop-number.number c.loop-number.graph.nodes) (c.loop-number.number + 1)
          c.loop-number.journal.items c.step.new.journal.items
          c.loop-number.invariant.1.usable.may.numbered.few_nodes (omega (arith, below, last))
          c.in_ok-graph.ensures.tells.0.0 c.loop-number.invariant.3,
    )
