use Rattle.reverse_deps.proofs.Least.{least_for}
use Rattle.reverse_deps.proofs.laws.nodes_for_are_least.Goals as goal

pub returns : goal.returns
returns g c = λ nodes m want. least_for c.same_means_equal.ensures m want nodes
