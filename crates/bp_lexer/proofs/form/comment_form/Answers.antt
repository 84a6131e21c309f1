use Rattle.std.proofs.Common.{sym, ◌∙◌}
use Rattle.bp_lexer.proofs.Comments.{line_longest}
use Rattle.bp_lexer.proofs.form.comment_form.Goals as goal

pub returns-in-47 : goal.returns-in-47
returns-in-47 c =
    line_longest c.args.text.now _ c.requires.first (sym c.second.ensures ∙ c.in-47.is) c.run_len.ensures.run
