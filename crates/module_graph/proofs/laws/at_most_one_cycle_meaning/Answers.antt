use Rattle.module_graph.proofs.OneCycle.{means_unique}
use Rattle.module_graph.proofs.laws.at_most_one_cycle_meaning.Goals as goal

pub returns : goal.returns
returns g c = λ nodes names said other. means_unique nodes names said other
