use Rattle.std.proofs.Common.{◌∙◌, ◌<◌, ap, subst, sym, length}
use Rattle.std.proofs.lemmas.List.{length-map}
use Rattle.serial_pass.specs.declared.plan.Plan.{Plan}
use Rattle.serial_pass.specs.Plans.{HasNoCycle, predecessors}
use Rattle.module_graph.specs.declared.direction.Direction.TheVariants.{TopDown}
use Rattle.mutator_rules.specs.Arrivals.{arrivals}
use Rattle.pass_ways.specs.Ways.{AnswersWay}
use Rattle.transition_rules.specs.Wants.{variations_meant}
use Rattle.transition_rules.proofs.wants_pass.visit_nodes.Goals as goal

pub run_by_way-requires-clause-free : goal.run_by_way-requires-clause-free
run_by_way-requires-clause-free g c =
    λ κs lives.
    subst (λ (p : Plan). HasNoCycle p.edges) (sym c.in_ok-plan.ensures.exact)
    (c.valid_plans_have_no_cycle.ensures c.args.g.now.nodes TopDown c.requires.valid)

pub run_by_way-requires-clause-takes : goal.run_by_way-requires-clause-takes
run_by_way-requires-clause-takes g c = λ κs lives n lt.
    let nodes = c.args.g.now.nodes in
    let exact = c.in_ok-plan.ensures.exact in
    let inside : n < length nodes = subst (λ (p : Plan). n < p.count) exact lt in (
      record { may_run = c.requires.may; inside = inside },
      c.in_ok-arriving.ensures,
      ap (λ (p : Plan). length (predecessors p.edges n)) exact
          ∙ ap length (c.predecessors_are_arrivals.ensures nodes n inside) ∙ length-map (arrivals nodes n) (λ a. a.0.0),
    )

pub returns : goal.returns
returns g c =
    subst
    (λ (p : Plan).
    AnswersWay c.args.way.now (variations_meant (g.M.Transition.meaning c.args.rule.now) c.args.g.now.nodes)
    p c.args.pass c.args.before.now c.run_by_way.result)
    c.in_ok-plan.ensures.exact c.run_by_way.ensures
