use Rattle.transition_rules.proofs.Rising.{others_rise}
use Rattle.transition_rules.proofs.laws.others_rise.Goals as goal

pub returns : goal.returns
returns c = λ own ws fit. others_rise c.same_means_equal.ensures own ws fit
