use Rattle.command_words.proofs.Holding.{all_hold}
use Rattle.command_words.proofs.laws.each_cause_holds.Goals as goal

pub returns : goal.returns
returns c = all_hold
