use Rattle.std.proofs.Common.{arith, inr}
use Rattle.bp_lexer.proofs.Quotes.{raw_longest, raw_open}
use Rattle.bp_lexer.proofs.form.raw_form.Goals as goal

pub returns-then-inner-text : goal.returns-then-inner-text
returns-then-inner-text c =
    raw_longest c.args.text.now _ c.requires.first c.run_len-inner.ensures.run c.if-inner-text.true

pub returns-else-inner-text : goal.returns-else-inner-text
returns-else-inner-text c = (
  raw_open c.args.text.now c.requires.nonempty c.requires.first (omega (arith, c.run_len-inner.ensures.run)),
  inr c.requires.first,
)
