use Rattle.pass_core.proofs.Listed.{one_outcome}
use Rattle.pass_core.proofs.laws.one_order_outcome.Goals as goal

pub returns : goal.returns
returns g c = λ mean plan order x y is free. one_outcome mean plan c.at_most_one_outcome.ensures order x y
