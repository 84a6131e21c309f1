use Rattle.transition_rules.proofs.OneTransition.{one_wants}
use Rattle.transition_rules.proofs.laws.one_wants_outcome.Goals as goal

pub returns : goal.returns
returns g c = λ m nodes x y a b. one_wants c.at_most_one_outcome.ensures m nodes x y a b
