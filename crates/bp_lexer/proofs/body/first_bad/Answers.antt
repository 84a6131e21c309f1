use Rattle.std.proofs.Common.{sym, ◌∙◌, subst}
use Rattle.bp_lexer.specs.Strings.{is_escape}
use Rattle.bp_lexer.specs.Search.{KnowsBadEscape}
use Rattle.bp_lexer.proofs.Bodies.{pair_more}
use Rattle.bp_lexer.proofs.body.first_bad.Goals as goal

pub returns-then-is_escape : goal.returns-then-is_escape
returns-then-is_escape c =
    pair_more is_escape c.args.rest.now c.args.n c.requires.within (subst (KnowsBadEscape c.args.rest.now c.args.n)
    c.in-None.is c.requires.before) c.requires.backslash (sym c.is_escape.ensures ∙ c.if-is_escape.true)
