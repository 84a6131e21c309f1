use Rattle.module_graph.proofs.Targets.{predecessors_targets}
use Rattle.module_graph.proofs.laws.predecessors_are_targets.Goals as goal

pub returns : goal.returns
returns g c = λ nodes n. predecessors_targets nodes n
