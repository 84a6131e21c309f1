use Rattle.module_graph.proofs.Alls.{edges_of_ends}
use Rattle.module_graph.proofs.laws.edges_join_nodes.Goals as goal

pub returns : goal.returns
returns g c = λ nodes ends. edges_of_ends nodes ends
