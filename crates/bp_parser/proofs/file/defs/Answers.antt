use Rattle.std.proofs.Common.{arith, map, subst, [], append-nil}
use Rattle.std.proofs.lemmas.Result.{err_from_is_err_and}
use Rattle.bp_parser.specs.Trees.{definition_of}
use Rattle.bp_parser.specs.Words.{all_words}
use Rattle.bp_parser.specs.Grammar.{SpellsFile}
use Rattle.bp_parser.proofs.TokensAt.{past_end}
use Rattle.bp_parser.proofs.DefsRead.{defs_stop_later}
use Rattle.bp_parser.proofs.file.defs.Goals as goal

pub returns-in_err-def-clause-stops : goal.returns-in_err-def-clause-stops
returns-in_err-def-clause-stops c =
    let p = err_from_is_err_and c.from_residual.result c.from_residual.ensures.1 in
    rw (p.1, p.2)
    (defs_stop_later (all_words c.args.text.now c.args.words.now) 0 c.reading.next c.in_err-def.field-0.0
    c.reading.invariant.goes_on c.in_err-def.ensures.stops)

pub returns-clause-spells : goal.returns-clause-spells
returns-clause-spells c =
    let ws = all_words c.args.text.now c.args.words.now in
    subst (λ l. SpellsFile l ws) (append-nil (map definition_of c.reading.defs.items))
    (c.reading.invariant.spells [] (past_end c.args.text.now c.args.words.now c.reading.next (omega arith)))
