use Rattle.mutator_kinds.proofs.SomeOutcome.{some_bottom_up}
use Rattle.mutator_kinds.proofs.laws.some_bottom_up_outcome.Goals as goal

pub returns : goal.returns
returns g c =
    λ mean nodes along numbered valid.
    some_bottom_up c.plans_of_graphs_are_plans.ensures c.valid_plans_have_no_cycle.ensures nodes numbered valid
    c.one_outcome.ensures c.limits_tell.ensures mean along
