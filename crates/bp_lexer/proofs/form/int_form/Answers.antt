use Rattle.std.proofs.Common.{arith}
use Rattle.bp_lexer.proofs.Ints.{int_longest}
use Rattle.bp_lexer.proofs.form.int_form.Goals as goal
use Rattle.bp_lexer.proofs.form.int_form.Goals.{else-text-eq45-via-then-text-eq45+else-more-eq0}
use Rattle.bp_lexer.proofs.form.int_form.Goals.{else-text-eq45-via-else-text-eq45}

pub returns : goal.returns
returns c =
    int_longest c.args.text.now _ c.requires.nonempty c.requires.first c.run_len-more.ensures.run
    (elim c.else-text-eq45.branch [
      | else-text-eq45-via-then-text-eq45+else-more-eq0 w ↦ λ minus. omega (arith, w.if-more-eq0.false)
      | else-text-eq45-via-else-text-eq45 w ↦ λ minus. absurd (w.if-text-eq45.false minus)
    ])
