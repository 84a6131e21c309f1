use Rattle.std.proofs.Common.{◌≡◌, ◌∙◌, ◌+◌, ◌∷◌, [], drop, refl}
use Rattle.std.proofs.lemmas.Result.{err_from_is_err_and}
use Rattle.bp_lexer.specs.declared.token.Punct.TheVariants.{Equal, PlusEqual}
use Rattle.bp_lexer.specs.Meaning.{word_of}
use Rattle.bp_parser.specs.Words.{all_words}
use Rattle.bp_parser.specs.Machine.{an_expr, entries}
use Rattle.bp_parser.proofs.Steps.{value_stop}
use Rattle.bp_parser.proofs.PartsRead.{ident_here}
use Rattle.bp_parser.proofs.DefsRead.{to_body, to_assigned, to_extended, to_value_of, mark_behind_name}
use Rattle.bp_parser.proofs.DefsRead.{defs_stop_within}
use Rattle.bp_parser.proofs.def.def_at.Goals as goal

pub returns-in_err-body-clause-stops : goal.returns-in_err-body-clause-stops
returns-in_err-body-clause-stops c =
    let p = err_from_is_err_and c.from_residual-in_err-body.result c.from_residual-in_err-body.ensures.1 in
    let text = c.args.text.now in
    let ws = all_words text c.args.words.now in
    let token = c.in_ok-token.token in
    let here = ident_here text c.args.words.now c.args.at token c.in_ok-token.ensures.ok.0 c.in_ok-token.ensures.ok.1 in
    rw (p.1, p.2)
    (defs_stop_within (entries [] ∷ []) ws c.args.at (c.args.at + 1 + 1) c.in_err-body.field-0.0
    (to_body ws c.args.at token.place (word_of text token) (here, c.in_ok-token.ensures.ok.2)
    ((c.is_mark.ensures.yes c.if-is_mark.true).here text))
    c.in_err-body.ensures.stops)

pub returns-then-is_mark-clause-goes_on : goal.returns-then-is_mark-clause-goes_on
returns-then-is_mark-clause-goes_on c =
    let text = c.args.text.now in
    let ws = all_words text c.args.words.now in
    let token = c.in_ok-token.token in
    let here = ident_here text c.args.words.now c.args.at token c.in_ok-token.ensures.ok.0 c.in_ok-token.ensures.ok.1 in
    to_body ws c.args.at token.place (word_of text token) (here, c.in_ok-token.ensures.ok.2)
    ((c.is_mark.ensures.yes c.if-is_mark.true).here text) ∙
    c.in_ok-body.ensures.goes_on [] refl

pub returns-in_err-value-clause-stops : goal.returns-in_err-value-clause-stops
returns-in_err-value-clause-stops c =
    let p = err_from_is_err_and c.from_residual-in_err-value.result c.from_residual-in_err-value.ensures.1 in
    let text = c.args.text.now in
    let ws = all_words text c.args.words.now in
    let token = c.in_ok-token.token in
    let here = ident_here text c.args.words.now c.args.at token c.in_ok-token.ensures.ok.0 c.in_ok-token.ensures.ok.1 in
    rw (p.1, p.2)
    (defs_stop_within (an_expr ∷ []) ws c.args.at (c.args.at + 2) c.in_err-value.field-0.0
    (to_assigned ws c.args.at token.place (word_of text token) (here, c.in_ok-token.ensures.ok.2)
    ((c.is_mark-2.ensures.yes c.if-is_mark-2.true).here text))
    c.in_err-value.ensures.stops)

pub returns-then-is_mark-2-clause-spells : goal.returns-then-is_mark-2-clause-spells
returns-then-is_mark-2-clause-spells c =
    let text = c.args.text.now in
    let ws = all_words text c.args.words.now in
    let token = c.in_ok-token.token in
    let here = ident_here text c.args.words.now c.args.at token c.in_ok-token.ensures.ok.0 c.in_ok-token.ensures.ok.1 in
    let same : c.in_ok-name.name ≡ word_of text token = c.in_ok-name.ensures ∙ c.text.ensures in
    rw same (
      drop (c.args.at + 1) ws,
      drop (c.args.at + 2) ws,
      (here, c.in_ok-token.ensures.ok.2),
      mark_behind_name Equal ws c.args.at ((c.is_mark-2.ensures.yes c.if-is_mark-2.true).here text),
      c.in_ok-value.ensures.spells,
    )

pub returns-then-is_mark-2-clause-goes_on : goal.returns-then-is_mark-2-clause-goes_on
returns-then-is_mark-2-clause-goes_on c =
    let text = c.args.text.now in
    let ws = all_words text c.args.words.now in
    let token = c.in_ok-token.token in
    let here = ident_here text c.args.words.now c.args.at token c.in_ok-token.ensures.ok.0 c.in_ok-token.ensures.ok.1 in
    to_assigned ws c.args.at token.place (word_of text token) (here, c.in_ok-token.ensures.ok.2)
    ((c.is_mark-2.ensures.yes c.if-is_mark-2.true).here text) ∙
    c.in_ok-value.ensures.goes_on [] refl

pub returns-in_err-value-2-clause-stops : goal.returns-in_err-value-2-clause-stops
returns-in_err-value-2-clause-stops c =
    let p = err_from_is_err_and c.from_residual-in_err-value-2.result c.from_residual-in_err-value-2.ensures.1 in
    let text = c.args.text.now in
    let ws = all_words text c.args.words.now in
    let token = c.in_ok-token.token in
    let here = ident_here text c.args.words.now c.args.at token c.in_ok-token.ensures.ok.0 c.in_ok-token.ensures.ok.1 in
    rw (p.1, p.2)
    (defs_stop_within (an_expr ∷ []) ws c.args.at (c.args.at + 2) c.in_err-value-2.field-0.0
    (to_extended ws c.args.at token.place (word_of text token) (here, c.in_ok-token.ensures.ok.2)
    ((c.is_mark-3.ensures.yes c.if-is_mark-3.true).here text))
    c.in_err-value-2.ensures.stops)

pub returns-then-is_mark-3-clause-spells : goal.returns-then-is_mark-3-clause-spells
returns-then-is_mark-3-clause-spells c =
    let text = c.args.text.now in
    let ws = all_words text c.args.words.now in
    let token = c.in_ok-token.token in
    let here = ident_here text c.args.words.now c.args.at token c.in_ok-token.ensures.ok.0 c.in_ok-token.ensures.ok.1 in
    let same : c.in_ok-name.name ≡ word_of text token = c.in_ok-name.ensures ∙ c.text.ensures in
    rw same (
      drop (c.args.at + 1) ws,
      drop (c.args.at + 2) ws,
      (here, c.in_ok-token.ensures.ok.2),
      mark_behind_name PlusEqual ws c.args.at ((c.is_mark-3.ensures.yes c.if-is_mark-3.true).here text),
      c.in_ok-value-2.ensures.spells,
    )

pub returns-then-is_mark-3-clause-goes_on : goal.returns-then-is_mark-3-clause-goes_on
returns-then-is_mark-3-clause-goes_on c =
    let text = c.args.text.now in
    let ws = all_words text c.args.words.now in
    let token = c.in_ok-token.token in
    let here = ident_here text c.args.words.now c.args.at token c.in_ok-token.ensures.ok.0 c.in_ok-token.ensures.ok.1 in
    to_extended ws c.args.at token.place (word_of text token) (here, c.in_ok-token.ensures.ok.2)
    ((c.is_mark-3.ensures.yes c.if-is_mark-3.true).here text) ∙
    c.in_ok-value-2.ensures.goes_on [] refl

pub returns-clause-stops : goal.returns-clause-stops
returns-clause-stops c =
    let text = c.args.text.now in
    let ws = all_words text c.args.words.now in
    let token = c.in_ok-token.token in
    let here =
    ident_here text c.args.words.now c.args.at token c.in_ok-token.ensures.ok.0 c.in_ok-token.ensures.ok.1 in (
      to_value_of ws c.args.at token.place (word_of text token) (here, c.in_ok-token.ensures.ok.2) ∙
          value_stop (drop (c.args.at + 1) ws) (c.args.at + 1) [] (c.is_mark.ensures.other c.if-is_mark.false text)
          (c.is_mark-2.ensures.other c.if-is_mark-2.false text) (c.is_mark-3.ensures.other c.if-is_mark-3.false text),
      tt,
    )
