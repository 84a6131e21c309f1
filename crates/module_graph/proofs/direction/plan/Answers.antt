use Rattle.std.proofs.Common.{◌∙◌, ap, sym, subst, length}
use Rattle.serial_pass.specs.declared.plan.Plan.{Plan}
use Rattle.serial_pass.specs.Plans.{IsPlan}
use Rattle.module_graph.proofs.PlanOf.{plan_of_is_plan}
use Rattle.module_graph.proofs.direction.plan.Goals as goal

pub returns-clause-is_plan : goal.returns-clause-is_plan
returns-clause-is_plan g c =
    let count = ap length c.as_slice.ensures in
    let edges = c.new.ensures ∙ c.in_ok-edges.ensures in
    subst (λ (plan : Plan). IsPlan plan) (sym (λ i. record { count = count i; edges = edges i }))
    (plan_of_is_plan c.args.dir c.args.g.now.nodes c.requires)
