use Rattle.std.proofs.Common.{ap, sym, Some, ◌∙◌}
use Rattle.fault_view.proofs.Texts.{text_of, no_text}
use Rattle.fault_view.proofs.excerpt.as_text.Goals as goal

pub returns-in-Ok : goal.returns-in-Ok
returns-in-Ok c =
    ap (λ text. Some text) c.in-Ok.ensures.cases.0 ∙ sym (text_of c.args.bytes.now c.in-Ok.ensures.cases.1)

pub returns-in-Err : goal.returns-in-Err
returns-in-Err c = sym (no_text c.args.bytes.now c.in-Err.ensures.cases.0)
