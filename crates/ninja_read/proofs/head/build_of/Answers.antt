use Rattle.std.proofs.Common.{◌≡◌, ap, ◌∙◌, subst, arith, length}
use Rattle.std.specs.Result.{IfOk}
use Rattle.ninja_lines.specs.Shown.{texts}
use Rattle.ninja_read.proofs.FormRead.{build_cut}
use Rattle.ninja_read.proofs.head.build_of.Goals as goal

pub returns-clause-meant : goal.returns-clause-meant
returns-clause-meant c =
    let n : length c.in_ok-parts.parts.items ≡ 2 = omega arith in
    let same = build_cut c.args.text.now c.in_ok-parts.parts.items c.index.result.now c.index-2.result.now
    (texts c.as_slice.result.now) (texts c.as_slice-2.result.now) c.in_ok-parts.ensures n c.index.ensures
    c.index-2.ensures (ap texts c.as_slice.ensures.value ∙ c.in_ok-makes.ensures)
    (ap texts c.as_slice-2.ensures.value ∙ c.in_ok-takes.ensures) in
    subst (λ m. IfOk c.statement_of_words.result (λ s. s ≡ m)) same c.statement_of_words.ensures.meant
