use Rattle.module_graph.proofs.Sorted.{into_by_target}
use Rattle.module_graph.proofs.laws.in_edges_stay_by_target.Goals as goal

pub returns : goal.returns
returns c = λ edges count n lt. into_by_target edges count n lt
