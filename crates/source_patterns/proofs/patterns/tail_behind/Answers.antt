use Rattle.std.proofs.Common.{◌∙◌, ap, sym, ◌++◌}
use Rattle.source_patterns.proofs.Behind.{rest_is, no_rest}
use Rattle.source_patterns.proofs.patterns.tail_behind.Goals as goal

pub returns-in-Some : goal.returns-in-Some
returns-in-Some c =
    let h = c.in-Some.ensures.cases in
    rest_is c.args.first.now c.args.text.now c.in-Some.rest.now (h.1.1 ∙ ap (λ x. c.args.first.now ++ x) (sym h.2))

pub returns-in-None : goal.returns-in-None
returns-in-None c = sym (no_rest c.args.first.now c.args.text.now c.in-None.ensures.cases)
