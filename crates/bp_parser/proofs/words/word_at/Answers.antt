use Rattle.bp_parser.proofs.TokensAt.{token_found}
use Rattle.bp_parser.proofs.words.word_at.Goals as goal

pub returns-in-Some-clause-some : goal.returns-in-Some-clause-some
returns-in-Some-clause-some c =
    token_found c.args.text.now c.args.words.now c.args.at c.in-Some.token.now c.requires c.in-Some.ensures.lookup.3
