use Rattle.ready_counters.proofs.Refining.{leads}
use Rattle.ready_counters.proofs.laws.steps_are_core_steps.Goals as goal

pub returns : goal.returns
returns g c = λ mean plan step id v s t is_plan free holds steps. leads mean plan is_plan s holds free
    c.results_meet_their_equation.ensures t step id v steps
