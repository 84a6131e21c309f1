use Rattle.transition_rules.proofs.SomeOutcome.{some_wants}
use Rattle.transition_rules.proofs.laws.some_wants_outcome.Goals as goal

pub returns : goal.returns
returns g c =
    λ m nodes numbered valid.
    some_wants c.plans_of_graphs_are_plans.ensures c.valid_plans_have_no_cycle.ensures m nodes numbered valid
    c.limits_tell.ensures c.one_outcome.ensures
