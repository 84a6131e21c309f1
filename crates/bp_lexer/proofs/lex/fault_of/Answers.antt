use Rattle.std.proofs.Common.{subst, drop}
use Rattle.bp_lexer.specs.Faults.{HasFlaw}
use Rattle.bp_lexer.specs.declared.token.TokenKind.TheVariants.{Int}
use Rattle.bp_lexer.proofs.Boundary.{ends_char_at, behind_slash}
use Rattle.bp_lexer.proofs.lex.fault_of.Goals as goal

pub char_at-requires-in-BadEscape : goal.char_at-requires-in-BadEscape
char_at-requires-in-BadEscape c =
    let wrong = subst (HasFlaw (drop c.args.at c.args.text.now)) c.in-BadEscape.is c.requires.flaw in
    behind_slash c.args.text.now c.args.at c.in-BadEscape.before c.utf8.text wrong.1.2

pub range-requires-clause-end_boundary : goal.range-requires-clause-end_boundary
range-requires-clause-end_boundary c =
    let wrong = subst (HasFlaw (drop c.args.at c.args.text.now)) c.in-BadNumber.is c.requires.flaw in
    ends_char_at c.args.text.now c.args.at c.in-BadNumber.len Int c.utf8.text c.requires.within.0 wrong.0
