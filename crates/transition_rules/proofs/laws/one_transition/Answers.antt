use Rattle.transition_rules.proofs.OneTransition.{one_transition}
use Rattle.transition_rules.proofs.laws.one_transition.Goals as goal

pub returns : goal.returns
returns g c =
    λ m nodes x y a b. one_transition c.at_most_one_outcome-2.ensures c.at_most_one_outcome.ensures m nodes x y a b
