use Rattle.std.proofs.Common.{◌∙◌, ap, subst, sym, Err}
use Rattle.serial_pass.specs.declared.plan.Plan.{Plan}
use Rattle.serial_pass.specs.Orders.{IsLegal, numbers}
use Rattle.module_graph.specs.declared.direction.Direction.TheVariants.{BottomUp}
use Rattle.module_graph.specs.Planned.{plan_of}
use Rattle.mutator_rules.specs.Outcomes.{Made, AnswersKind}
use Rattle.transition_rules.specs.Passes.{TransitionMeans}
use Rattle.transition_rules.specs.declared.mutate_pass.MutatedGraph.{MutatedGraph}
use Rattle.transition_rules.specs.declared.transition_pass.TransitionGraph.{TransitionGraph}
use Rattle.transition_rules.specs.declared.wants_pass.WantedGraph.{WantedGraph}
use Rattle.transition_rules.proofs.Steps.{first_step, second_step, none_some}
use Rattle.transition_rules.proofs.transition_pass.run_transition.Goals as goal

pub returns-in-Err-Kind-clause-means : goal.returns-in-Err-Kind-clause-means
returns-in-Err-Kind-clause-means g c =
    subst
    (λ e. AnswersKind (λ (made : TransitionGraph _). made.graph.nodes)
    (TransitionMeans (g.M.Transition.meaning c.args.m.now) c.args.g.nodes) (Err e)) (sym c.in-Err-Kind.error-is)
    (first_step _ (g.M.Transition.meaning c.args.m.now) c.args.g.nodes (λ (made : WantedGraph _). made.graph.nodes)
    (λ (made : TransitionGraph _). made.graph.nodes) c.in-Err-Kind.error c.run_wants_by.result
    (c.in-Err-Kind.is ∙ ap Err c.in-Err-Kind.field-0-is) c.run_wants_by.ensures.means)

pub returns-in-Ok-run_mutate_by-clause-means : goal.returns-in-Ok-run_mutate_by-clause-means
returns-in-Ok-run_mutate_by-clause-means g c =
    (Made c.in-Ok.wanted.graph.nodes, c.in-Ok.ensures.means, c.in-Ok-run_mutate_by.ensures.means)

pub returns-in-Ok-run_mutate_by-clause-mutated : goal.returns-in-Ok-run_mutate_by-clause-mutated
returns-in-Ok-run_mutate_by-clause-mutated g c =
    let means = c.in-Ok-run_mutate_by.ensures.means in
    subst (λ (p : Plan). IsLegal p (numbers c.in-Ok-run_mutate_by.made.order))
    (sym (ap (plan_of BottomUp) means.2
    ∙ (c.new_payloads_keep_plans.ensures c.in-Ok.wanted.graph.nodes means.0 BottomUp).1))
    c.in-Ok-run_mutate_by.ensures.followed.0

pub returns-in-Ok-run_mutate_by-clause-free : goal.returns-in-Ok-run_mutate_by-clause-free
returns-in-Ok-run_mutate_by-clause-free g c =
    λ axis other free.
    c.in-Ok-run_mutate_by.ensures.free axis (λ e. none_some axis e) (c.in-Ok.ensures.free axis other free)

pub returns-in-Err-Kind-run_mutate_by-clause-means : goal.returns-in-Err-Kind-run_mutate_by-clause-means
returns-in-Err-Kind-run_mutate_by-clause-means g c =
    second_step _ (g.M.Transition.meaning c.args.m.now) c.args.g.nodes (λ (made : MutatedGraph _). made.graph.nodes)
    (λ (made : TransitionGraph _). made.graph.nodes) c.in-Ok.wanted.graph.nodes c.in-Ok.ensures.means
    c.in-Err-Kind-run_mutate_by.error c.run_mutate_by.result
    (c.in-Err-Kind-run_mutate_by.is ∙ ap Err c.in-Err-Kind-run_mutate_by.field-0-is) c.run_mutate_by.ensures.means
