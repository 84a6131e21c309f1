use Rattle.mutator_kinds.proofs.OneOutcome.{top_down_once}
use Rattle.mutator_kinds.proofs.laws.one_top_down_outcome.Goals as goal

pub returns : goal.returns
returns g c = λ mean nodes outcome other h k. top_down_once c.at_most_one_outcome.ensures mean nodes outcome other h k
