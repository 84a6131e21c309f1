use Rattle.graph_nodes.proofs.Standing.{edges_stand}
use Rattle.graph_nodes.proofs.laws.edges_stand_at_their_node.Goals as goal

pub returns : goal.returns
returns g c = λ nodes n x at. edges_stand nodes n x at
