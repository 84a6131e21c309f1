use Rattle.mutator_kinds.proofs.SomeOutcome.{some_top_down}
use Rattle.mutator_kinds.proofs.laws.some_top_down_outcome.Goals as goal

pub returns : goal.returns
returns g c =
    λ mean nodes numbered valid.
    some_top_down c.plans_of_graphs_are_plans.ensures c.valid_plans_have_no_cycle.ensures nodes numbered valid
    c.one_outcome.ensures mean
