use Rattle.transition_rules.proofs.Equation.{equation}
use Rattle.transition_rules.proofs.laws.wants_meet_their_equation.Goals as goal

pub returns : goal.returns
returns g c =
    λ m nodes lists n numbered valid wants lt.
    equation c.outs_meet_their_equation.ensures c.plans_of_graphs_are_plans.ensures c.valid_plans_have_no_cycle.ensures
    c.predecessors_are_arrivals.ensures m nodes lists numbered valid wants n lt
