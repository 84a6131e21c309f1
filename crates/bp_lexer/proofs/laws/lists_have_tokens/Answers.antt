use Rattle.bp_lexer.proofs.ListedTokens.{all_tokens}
use Rattle.bp_lexer.proofs.laws.lists_have_tokens.Goals as goal

pub returns : goal.returns
returns c = all_tokens
