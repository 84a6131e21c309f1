use Rattle.graph_nodes.proofs.Sames.{same_is, equal_same}
use Rattle.graph_nodes.proofs.laws.same_means_equal.Goals as goal

pub returns : goal.returns
returns c = λ v w. (same_is v w, equal_same v w)
