use Rattle.std.proofs.Common.{ap, length}
use Rattle.serial_pass.specs.Plans.{sources}
use Rattle.module_graph.specs.Graphs.{edges_of}
use Rattle.module_graph.proofs.Sorted.{into_by_target}
use Rattle.module_graph.proofs.laws.predecessors_are_sources.Goals as goal

pub returns : goal.returns
returns g c = λ nodes n lt. ap sources (into_by_target (edges_of nodes) (length nodes) n lt)
