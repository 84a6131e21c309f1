use Rattle.transition_rules.proofs.SomeOutcome.{some_mutate}
use Rattle.transition_rules.proofs.laws.some_mutate_outcome.Goals as goal

pub returns : goal.returns
returns g c =
    λ m nodes numbered valid.
    some_mutate c.plans_of_graphs_are_plans.ensures c.valid_plans_have_no_cycle.ensures m nodes numbered valid
    c.one_outcome.ensures
