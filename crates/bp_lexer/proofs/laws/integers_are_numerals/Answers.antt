use Rattle.bp_lexer.proofs.Numbers.{numeral}
use Rattle.bp_lexer.proofs.laws.integers_are_numerals.Goals as goal

pub returns : goal.returns
returns c = numeral
