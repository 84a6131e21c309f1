use Rattle.bp_lexer.proofs.Longest.{longest_before}
use Rattle.bp_lexer.proofs.laws.forms_stand_apart.Goals as goal

pub returns : goal.returns
returns c = longest_before
