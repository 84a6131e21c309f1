use Rattle.bp_lexer.proofs.Within.{stands_within}
use Rattle.bp_lexer.proofs.laws.tokens_stand_within.Goals as goal

pub returns : goal.returns
returns c = stands_within
