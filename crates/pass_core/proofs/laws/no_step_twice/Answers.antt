use Rattle.pass_core.specs.CoreStates.{beginning}
use Rattle.pass_core.proofs.Repeats.{no_repeats}
use Rattle.pass_core.proofs.laws.no_step_twice.Goals as goal

pub returns : goal.returns
returns g c = λ mean plan steps s is free reached. no_repeats mean plan steps (beginning plan) reached.allowed
