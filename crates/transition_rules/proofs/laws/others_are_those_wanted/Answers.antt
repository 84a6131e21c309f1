use Rattle.transition_rules.proofs.Rising.{others_are_those_wanted}
use Rattle.transition_rules.proofs.laws.others_are_those_wanted.Goals as goal

pub returns : goal.returns
returns c = λ own ws v. others_are_those_wanted c.same_means_equal.ensures own ws v
