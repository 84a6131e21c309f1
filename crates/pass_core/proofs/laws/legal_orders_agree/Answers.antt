use Rattle.pass_core.proofs.Listed.{legal_agree}
use Rattle.pass_core.proofs.laws.legal_orders_agree.Goals as goal

pub returns : goal.returns
returns g c =
    λ mean plan order other x y is free legal as_legal.
    legal_agree mean plan c.at_most_one_outcome.ensures order other legal as_legal x y
