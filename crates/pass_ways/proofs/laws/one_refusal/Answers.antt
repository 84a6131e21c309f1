use Rattle.pass_ways.proofs.Told.{one_fault}
use Rattle.pass_ways.proofs.laws.one_refusal.Goals as goal

pub returns : goal.returns
returns c = λ lines file before pass plan fault other a b. one_fault lines before pass file plan fault other a b
