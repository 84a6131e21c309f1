use Rattle.reverse_deps.proofs.Whole.{nothing_asked}
use Rattle.reverse_deps.proofs.laws.nothing_asked_keeps.Goals as goal

pub returns : goal.returns
returns g c = λ mods nodes valid few. nothing_asked mods nodes valid few
