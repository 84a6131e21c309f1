use Rattle.transition_rules.proofs.Spellings.{same_spelled}
use Rattle.transition_rules.proofs.laws.spellings_differ.Goals as goal

pub returns : goal.returns
returns c = λ v w fv fw e. same_spelled v w fv fw e
