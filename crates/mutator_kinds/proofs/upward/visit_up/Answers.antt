use Rattle.std.proofs.Common.{◌∙◌, ◌<◌, ap, subst, sym, length}
use Rattle.serial_pass.specs.declared.plan.Plan.{Plan}
use Rattle.serial_pass.specs.Plans.{HasNoCycle, predecessors}
use Rattle.module_graph.specs.declared.direction.Direction.TheVariants.{BottomUp}
use Rattle.pass_ways.specs.Ways.{AnswersWay}
use Rattle.mutator_kinds.specs.Inside.{AreFit}
use Rattle.mutator_kinds.proofs.Ended.{if_ok_outs}
use Rattle.mutator_kinds.proofs.Fit.{all_outs, fit_outs}
use Rattle.mutator_kinds.proofs.upward.visit_up.Goals as goal

pub run_by_way-requires-clause-free : goal.run_by_way-requires-clause-free
run_by_way-requires-clause-free g c = λ κs outlives.
    subst (λ (p : Plan). HasNoCycle p.edges) (sym c.in_ok-plan.ensures.exact)
    (c.valid_plans_have_no_cycle.ensures c.args.g.now.nodes BottomUp c.requires.valid)

pub run_by_way-requires-clause-takes : goal.run_by_way-requires-clause-takes
run_by_way-requires-clause-takes g c = λ κs outlives n lt.
    let nodes = c.args.g.now.nodes in
    let exact = c.in_ok-plan.ensures.exact in
    let inside : n < length nodes = subst (λ (p : Plan). n < p.count) exact lt in (
      record { may_run = c.requires.may; inside = inside },
      ap (λ (p : Plan). length (predecessors p.edges n)) exact ∙ ap length (c.predecessors_are_targets.ensures nodes n),
    )

pub returns-clause-answers : goal.returns-clause-answers
returns-clause-answers g c =
    subst (λ (p : Plan). AnswersWay c.args.way.now
    (g.M.BottomUp.meaning c.args.rule.now c.args.g.now.nodes) p c.args.pass c.args.before.now c.run_by_way.result)
    c.in_ok-plan.ensures.exact c.run_by_way.ensures

pub returns-clause-fit : goal.returns-clause-fit
returns-clause-fit g c =
    let nodes = c.args.g.now.nodes in
    let plan = c.in_ok-plan.plan in
    let mean = g.M.BottomUp.meaning c.args.rule.now in
    let along = g.M.BottomUp.splits_along c.args.rule.now in
    let exact = c.in_ok-plan.ensures.exact in
    let acyclic = subst (λ (p : Plan). HasNoCycle p.edges) (sym exact)
    (c.valid_plans_have_no_cycle.ensures nodes BottomUp c.requires.valid) in
    if_ok_outs c.args.way.now (mean nodes) plan c.args.pass c.args.before.now (AreFit along)
    (λ outs outcome. fit_outs mean nodes outs
    (λ Q each.
    all_outs (mean nodes) plan outs c.outs_meet_their_equation.ensures c.in_ok-plan.ensures.is_plan acyclic outcome
    (c.outs_are_many.ensures (mean nodes) plan outs outcome) Q
    (λ n ins out lt h. each n ins out (subst (λ (p : Plan). n < p.count) exact lt) h))
    along c.has_shape.ensures c.requires.differ)
    c.run_by_way.result c.run_by_way.ensures
