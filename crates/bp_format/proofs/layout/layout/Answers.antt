use Rattle.bp_format.proofs.Listed.{token_of}
use Rattle.bp_format.proofs.layout.layout.Goals as goal

pub text-requires : goal.text-requires
text-requires c =
    token_of c.lists_have_tokens.ensures c.requires.0 c.args.text.now c.args.tokens.now c.loop-at.at _ c.requires.1
    c.loop-at-test.true
