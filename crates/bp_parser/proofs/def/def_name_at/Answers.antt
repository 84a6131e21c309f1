use Rattle.std.proofs.Common.{◌∙◌, sym, ap}
use Rattle.std.proofs.lemmas.Result.{err_from_is_err_and}
use Rattle.bp_parser.specs.Words.{all_words, is_truth}
use Rattle.bp_parser.proofs.DefsRead.{defs_stop_at, no_name_here, truth_here}
use Rattle.bp_parser.proofs.def.def_name_at.Goals as goal

pub returns-in_err-name-clause-err : goal.returns-in_err-name-clause-err
returns-in_err-name-clause-err c =
    let p = err_from_is_err_and c.from_residual.result c.from_residual.ensures.1 in
    let text = c.args.text.now in
    let wrong = c.in_err-name.ensures.err in
    rw (p.1, p.2)
    (defs_stop_at (all_words text c.args.words.now) c.args.at c.args.at c.in_err-name.field-0.0 wrong.0
    (no_name_here text c.args.words.now c.args.at c.requires.within wrong.1))

pub returns-then-is_truth-clause-err : goal.returns-then-is_truth-clause-err
returns-then-is_truth-clause-err c =
    let truth = ap is_truth (sym c.text.ensures) ∙ sym c.is_truth.ensures ∙ c.if-is_truth.true in
    (truth_here c.args.text.now c.args.words.now c.args.at c.in_ok-name.name c.in_ok-name.ensures.ok.0 truth, tt)
