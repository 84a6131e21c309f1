use Rattle.std.proofs.Common.{◌≡◌, ap, ◌∙◌, subst, arith, length}
use Rattle.std.specs.Result.{IfOk}
use Rattle.ninja_lines.specs.Shown.{texts}
use Rattle.ninja_read.proofs.FormRead.{defaults_cut}
use Rattle.ninja_read.proofs.head.defaults_of.Goals as goal

pub returns : goal.returns
returns c =
    let n : length c.in_ok-parts.parts.items ≡ 1 = omega arith in
    let same = defaults_cut c.args.text.now c.in_ok-parts.parts.items c.index.result.now (texts c.as_slice.result.now)
    c.in_ok-parts.ensures n c.index.ensures (ap texts c.as_slice.ensures.value ∙ c.in_ok-words.ensures) in
    subst (λ m. IfOk c.some_paths.result (λ paths. paths ≡ m)) same c.some_paths.ensures
