use Rattle.std.proofs.Common.{length}
use Rattle.bp_lexer.proofs.OneMeaning.{one_list}
use Rattle.bp_lexer.proofs.laws.one_token_list.Goals as goal

pub returns : goal.returns
returns c = λ file text ts us. one_list file text 0 (length text) ts us
