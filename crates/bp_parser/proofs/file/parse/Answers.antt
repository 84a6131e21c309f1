use Rattle.std.proofs.Common.{◌≡◌, ◌∙◌, sym, ap, subst, map, [], None}
use Rattle.bp_parser.specs.Trees.{definition_of}
use Rattle.bp_parser.specs.Words.{all_words, words_of}
use Rattle.bp_parser.specs.Grammar.{SpellsFile}
use Rattle.bp_parser.specs.Machine.{stuck, DefsStopWith}
use Rattle.bp_parser.specs.Meaning.{number_of_file, parse_fault}
use Rattle.bp_parser.specs.Reading.{AreTokens}
use Rattle.bp_parser.proofs.DefsRead.{kept_tokens, tree_meant, flaw_meant}
use Rattle.bp_parser.proofs.file.parse.Goals as goal

pub defs-requires : goal.defs-requires
defs-requires c =
    let kept = c.words_among-words.ensures in
    subst (AreTokens c.args.text.now) (sym kept)
    (kept_tokens c.lists_have_tokens.ensures c.args.text.now c.args.tokens.now c.requires.tokens)

pub fault_of-requires-clause-tokens : goal.fault_of-requires-clause-tokens
fault_of-requires-clause-tokens c =
    let kept = c.words_among-words.ensures in
    subst (AreTokens c.args.text.now) (sym kept)
    (kept_tokens c.lists_have_tokens.ensures c.args.text.now c.args.tokens.now c.requires.tokens)

pub returns-in-Ok : goal.returns-in-Ok
returns-in-Ok c =
    let text = c.args.text.now in
    let words = ap (all_words text) c.words_among-words.ensures in
    let defs = map definition_of c.in-Ok.defs.items in
    tree_meant (words_of text c.args.tokens.now) c.file_of.result defs (c.file_of.ensures ∙ ap number_of_file words)
    (subst (SpellsFile defs) words c.in-Ok.ensures.spells)
    (subst (λ ws. stuck ws 0 [] ≡ None) words c.in-Ok.ensures.whole)

pub returns-in-Err-Bad : goal.returns-in-Err-Bad
returns-in-Err-Bad c =
    let text = c.args.text.now in
    let words = ap (all_words text) c.words_among-words.ensures in
    let flaw = c.in-Err-Bad.flaw in (
      flaw,
      flaw_meant (words_of text c.args.tokens.now) flaw c.in-Err-Bad.field-0 (cc)
          (subst (λ ws. DefsStopWith ws 0 c.in-Err-Bad.field-0) words c.in-Err-Bad.ensures.stops),
      c.in_ok-fault_of-in-Err-Bad.ensures ∙ ap (λ ws. parse_fault text ws flaw) words,
    )
