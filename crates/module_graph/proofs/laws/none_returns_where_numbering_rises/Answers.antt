use Rattle.module_graph.proofs.Ranked.{ranked}
use Rattle.module_graph.proofs.Walking.{none_returns}
use Rattle.module_graph.proofs.laws.none_returns_where_numbering_rises.Goals as goal

pub returns : goal.returns
returns c = λ count edges ends. (ranked count edges ends, none_returns edges)
