use Rattle.bp_lexer.proofs.OneMeaning.{one_meaning}
use Rattle.bp_lexer.proofs.laws.one_meaning.Goals as goal

pub returns : goal.returns
returns c = one_meaning
