use Rattle.std.proofs.Common.{subst, sym}
use Rattle.serial_pass.specs.declared.plan.Plan.{Plan}
use Rattle.serial_pass.specs.Plans.{HasNoCycle}
use Rattle.variant_graphs.proofs.idle.visit_idle.Goals as goal

pub order_by_way-requires-clause-free : goal.order_by_way-requires-clause-free
order_by_way-requires-clause-free g c = λ κs outlives.
    subst (λ (p : Plan). HasNoCycle p.edges) (sym c.in_ok-plan.ensures.exact)
    (c.valid_plans_have_no_cycle.ensures c.args.g.now.nodes c.args.dir c.requires.valid)
