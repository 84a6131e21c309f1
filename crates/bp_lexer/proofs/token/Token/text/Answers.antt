use Rattle.bp_lexer.proofs.Boundary.{after_token}
use Rattle.bp_lexer.proofs.token.Token.text.Goals as goal

pub range-requires-clause-end_boundary : goal.range-requires-clause-end_boundary
range-requires-clause-end_boundary c = after_token _ c.args.text.now c.args.self c.utf8.text c.requires
