use Rattle.std.proofs.Common.{sym, ◌∙◌}
use Rattle.bp_parser.specs.Words.{Word, as_word, all_words}
use Rattle.bp_parser.proofs.DefsRead.{word_value}
use Rattle.bp_parser.proofs.file.subject_at.Goals as goal

pub returns-in_ok-from_str-in-Some : goal.returns-in_ok-from_str-in-Some
returns-in_ok-from_str-in-Some c =
    let text = c.args.text.now in
    let ws = all_words text c.args.words.now in
    let w : Word = as_word text c.in-Some.token in (
      sym (word_value (λ (v : Word). v.at) _ ws c.args.at w _ c.in-Some.ensures.some.here),
      c.in_ok-from_str-in-Some.ensures
          ∙ c.text.ensures
          ∙ sym (word_value (λ (v : Word). v.text) _ ws c.args.at w _ c.in-Some.ensures.some.here),
    )
