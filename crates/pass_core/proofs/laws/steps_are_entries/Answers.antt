use Rattle.pass_core.proofs.Sound.{reached_entries}
use Rattle.pass_core.proofs.laws.steps_are_entries.Goals as goal

pub returns : goal.returns
returns g c =
    λ mean plan steps s is free reached.
    reached_entries mean plan is free c.results_meet_their_equation.ensures steps s reached
