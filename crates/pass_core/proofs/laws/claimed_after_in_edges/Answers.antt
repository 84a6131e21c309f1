use Rattle.pass_core.proofs.Sound.{reached_sound}
use Rattle.pass_core.proofs.Progress.{claimed_late}
use Rattle.pass_core.proofs.laws.claimed_after_in_edges.Goals as goal

pub returns : goal.returns
returns g c =
    λ mean plan steps s is free reached.
    claimed_late mean plan is free s
    (reached_sound mean plan is free c.results_meet_their_equation.ensures steps s reached)
