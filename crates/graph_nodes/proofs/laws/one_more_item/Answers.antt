use Rattle.graph_nodes.proofs.Numbers.{by_number_last}
use Rattle.graph_nodes.proofs.laws.one_more_item.Goals as goal

pub returns : goal.returns
returns g c = λ f xs x. by_number_last f xs x
