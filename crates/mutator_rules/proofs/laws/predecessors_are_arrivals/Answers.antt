use Rattle.std.proofs.Common.{◌∙◌}
use Rattle.mutator_rules.proofs.Arrived.{from_number}
use Rattle.mutator_rules.proofs.laws.predecessors_are_arrivals.Goals as goal

pub returns : goal.returns
returns g c = λ nodes n lt. c.predecessors_are_sources.ensures nodes n lt ∙ from_number n 0 nodes
