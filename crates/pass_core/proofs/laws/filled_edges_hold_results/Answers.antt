use Rattle.pass_core.proofs.Sound.{reached_sound}
use Rattle.pass_core.proofs.laws.filled_edges_hold_results.Goals as goal

pub returns : goal.returns
returns g c =
    λ mean plan steps s is free reached e r held.
    (reached_sound mean plan is free c.results_meet_their_equation.ensures steps s reached).right e r held
