use Rattle.mutator_kinds.proofs.OneOutcome.{bottom_up_once}
use Rattle.mutator_kinds.proofs.laws.one_bottom_up_outcome.Goals as goal

pub returns : goal.returns
returns g c =
    λ mean nodes along outcome other h k.
    bottom_up_once c.at_most_one_outcome.ensures mean nodes along outcome other h k
