use Rattle.std.proofs.Common.{length, zero-add}
use Rattle.mutator_rules.proofs.Arrived.{all_arrived}
use Rattle.mutator_rules.proofs.laws.arrivals_come_from_nodes.Goals as goal

pub returns : goal.returns
returns g c = λ nodes n. all_arrived (length nodes) n 0 nodes (zero-add (length nodes))
