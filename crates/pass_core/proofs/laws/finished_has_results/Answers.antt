use Rattle.pass_core.proofs.Sound.{reached_sound}
use Rattle.pass_core.proofs.Progress.{results_when_finished}
use Rattle.pass_core.proofs.laws.finished_has_results.Goals as goal

pub returns : goal.returns
returns g c =
    λ mean plan steps s is free reached done.
    results_when_finished mean plan is free s
    (reached_sound mean plan is free c.results_meet_their_equation.ensures steps s reached)
    c.results_meet_their_equation.ensures done
