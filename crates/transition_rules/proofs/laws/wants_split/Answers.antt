use Rattle.transition_rules.proofs.WantsSplit.{wants_split}
use Rattle.transition_rules.proofs.laws.wants_split.Goals as goal

pub returns : goal.returns
returns g c =
    λ m nodes lists numbered valid differ wants.
    wants_split c.outs_are_many.ensures c.wants_meet_their_equation.ensures c.same_means_equal.ensures m nodes lists
    numbered valid wants differ
