use Rattle.bp_lexer.proofs.TokenKinds.{form_first}
use Rattle.bp_lexer.proofs.laws.forms_have_bytes.Goals as goal

pub returns : goal.returns
returns c = form_first
