use Rattle.std.proofs.Common.{Some, None, ◌∙◌, ap, sym, ◌++◌}
use Rattle.ninja_read.proofs.FormRead.{behind_is}
use Rattle.ninja_read.proofs.form.behind_word.Goals as goal

pub returns-in-Some : goal.returns-in-Some
returns-in-Some c =
    let h = c.in-Some.ensures.cases in
    behind_is c.args.word.now c.args.text.now (Some c.in-Some.rest) (h.1.1 ∙ ap (λ x. c.args.word.now ++ x) (sym h.2))

pub returns-in-None : goal.returns-in-None
returns-in-None c = behind_is c.args.word.now c.args.text.now None c.in-None.ensures.cases
