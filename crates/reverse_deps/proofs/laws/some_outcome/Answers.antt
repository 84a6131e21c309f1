use Rattle.reverse_deps.proofs.SomeOutcome.{some_outcome}
use Rattle.reverse_deps.proofs.laws.some_outcome.Goals as goal

pub returns : goal.returns
returns g c = λ mods nodes asked ends asking. some_outcome mods c.one_cycle_meaning.ensures nodes asked ends asking
