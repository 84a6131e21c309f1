use Rattle.std.proofs.Common.{◌++◌, inl, inr, refl}
use Rattle.module_graph.specs.declared.direction.Direction.TheVariants.{BottomUp}
use Rattle.module_graph.specs.Planned.{plan_of}
use Rattle.pass_ways.specs.Visits.{visits}
use Rattle.bp_pipeline.proofs.Passing.{noted, own_refusal}
use Rattle.bp_pipeline.proofs.actions.run_actions.Goals as goal

pub returns-in_ok-note-in-Ok : goal.returns-in_ok-note-in-Ok
returns-in_ok-note-in-Ok g c = (
  noted c.args.shop.now.way (plan_of BottomUp c.args.graph.now.nodes) 13 c.as_slice.result.now
      c.args.journal.now.items c.as_slice.ensures.value c.in-Ok.run'.order c.as_slice-in-Ok.result.now
      c.note.new.journal.items c.as_slice-in-Ok.ensures c.in_ok-note-in-Ok.ensures c.in-Ok.ensures.1,
  c.in-Ok.ensures.0,
)

pub returns-in-Err-At : goal.returns-in-Err-At
returns-in-Err-At g c =
    let at = rw c.in-Err-At.field-0-is at c.in-Err-At.ensures in
    inl (
      c.args.journal.now.items ++ visits 13 at.1.0,
      noted c.args.shop.now.way (plan_of BottomUp c.args.graph.now.nodes) 13 c.as_slice.result.now
          c.args.journal.now.items c.as_slice.ensures.value at.1.0 at.1.0
          (c.args.journal.now.items ++ visits 13 at.1.0) refl refl at.1.1,
      (c.in-Err-At.field-0-0.0, at.0),
    )

pub returns-in-Err-Refused : goal.returns-in-Err-Refused
returns-in-Err-Refused g c =
    let at = rw c.in-Err-Refused.field-0-is at c.in-Err-Refused.ensures in
    inr
    (own_refusal c.args.shop.now.way (plan_of BottomUp c.args.graph.now.nodes) 13 c.as_slice.result.now
    c.args.journal.now.items c.as_slice.ensures.value c.in-Err-Refused.fault c.in-Err-Refused.fault refl at)
