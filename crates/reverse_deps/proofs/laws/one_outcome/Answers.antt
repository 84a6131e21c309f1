use Rattle.reverse_deps.proofs.OneOutcome.{applied_once}
use Rattle.reverse_deps.proofs.laws.one_outcome.Goals as goal

pub returns : goal.returns
returns g c = λ mods nodes asked. applied_once c.at_most_one_cycle_meaning.ensures mods nodes asked
