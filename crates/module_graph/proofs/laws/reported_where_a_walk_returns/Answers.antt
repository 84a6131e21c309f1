use Rattle.module_graph.proofs.SomeCycle.{reported_of}
use Rattle.module_graph.proofs.laws.reported_where_a_walk_returns.Goals as goal

pub returns : goal.returns
returns g c = λ nodes names ends. (λ t. (t.1.0, t.1.3.start.returns), λ t. reported_of nodes ends names t.0 t.1)
