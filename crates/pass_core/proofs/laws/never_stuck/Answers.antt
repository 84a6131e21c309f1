use Rattle.pass_core.proofs.Sound.{reached_sound}
use Rattle.pass_core.proofs.Progress.{never_stuck}
use Rattle.pass_core.proofs.laws.never_stuck.Goals as goal

pub returns : goal.returns
returns g c =
    λ mean plan steps s is free reached unfinished.
    never_stuck mean plan is free s
    (reached_sound mean plan is free c.results_meet_their_equation.ensures steps s reached)
    c.predecessors_are_nodes.ensures c.predecessors_are_less.ensures unfinished
