use Rattle.std.proofs.Common.{◌≡◌, ◌<◌, ◌+◌, ◌∙◌, ap, arith, refl, true, false, Some, length, sym, subst}
use Rattle.std.specs.Prelude.{Vec}
use Rattle.std.specs.Global.{Global}
use Rattle.serial_pass.specs.declared.plan.PlanEdge.{PlanEdge}
use Rattle.pass_ways.specs.Stretches.{AddsEdges}
use Rattle.pass_ways.proofs.Linked.{mark_read, adds_skipped, adds_pushed}
use Rattle.pass_ways.proofs.stretches.push_edges.Goals as goal
use Rattle.pass_ways.proofs.stretches.push_edges.Goals.{then-marks-from+in_ok-push, else-marks-from}

pub loop-from-preserved : goal.loop-from-preserved
loop-from-preserved c =
    let e : PlanEdge = record { from = record { 0 = c.loop-from.from }; to = record { 0 = c.args.to } } in
    let within : c.loop-from.from < length c.args.marks.now = let inside = c.requires.inside in omega (
      arith,
      inside,
      c.loop-from-test.true,
    ) in
    elim c.if-marks-from.branch [
      | then-marks-from+in_ok-push w ↦
          adds_pushed c.args.marks.now c.args.to c.args.edges.now.items c.loop-from.from c.loop-from.edges.items
          c.loop-from.invariant c.loop-from-test.true
          e c.if-marks-from.edges.items refl refl (ap (λ (v : Vec PlanEdge Global). v.items) w.edges-is ∙
          w.in_ok-push.ensures.items)
      | else-marks-from w ↦
          subst (λ (v : Vec PlanEdge Global). AddsEdges c.args.marks.now c.args.to (c.loop-from.from + 1)
          c.args.edges.now.items v.items) (sym w.edges-is)
          (adds_skipped c.args.marks.now c.args.to c.args.edges.now.items c.loop-from.from c.loop-from.edges.items
          c.loop-from.invariant c.loop-from-test.true
          (λ h. let unmarked : Some false ≡ Some true = sym (mark_read c.args.marks.now c.loop-from.from false within
          w.if-marks-from.false) ∙ h in cc))
    ]
