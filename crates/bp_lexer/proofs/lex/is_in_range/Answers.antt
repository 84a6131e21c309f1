use Rattle.bp_lexer.specs.declared.token.TokenKind.TheVariants.{Int}
use Rattle.bp_lexer.proofs.Boundary.{begins_char_at, ends_char_at}
use Rattle.bp_lexer.proofs.Numbers.{range_test}
use Rattle.bp_lexer.proofs.lex.is_in_range.Goals as goal

pub range-requires-clause-start_boundary : goal.range-requires-clause-start_boundary
range-requires-clause-start_boundary c =
    λ some. begins_char_at c.args.text.now c.args.at c.args.len Int c.requires.within c.requires.int

pub range-requires-clause-end_boundary : goal.range-requires-clause-end_boundary
range-requires-clause-end_boundary c =
    ends_char_at c.args.text.now c.args.at c.args.len Int c.utf8.text c.requires.within c.requires.int

pub returns : goal.returns
returns c =
    range_test c.args.text.now c.args.at c.args.len c.range.result.now c.parse.result c.is_ok.result c.requires.int.form
    c.range.ensures.value c.parse.ensures.value.0 c.is_ok.ensures.value
