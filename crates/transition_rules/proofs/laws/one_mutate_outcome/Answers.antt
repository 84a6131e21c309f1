use Rattle.transition_rules.proofs.OneTransition.{one_mutate}
use Rattle.transition_rules.proofs.laws.one_mutate_outcome.Goals as goal

pub returns : goal.returns
returns g c = λ m nodes x y a b. one_mutate c.at_most_one_outcome.ensures m nodes x y a b
