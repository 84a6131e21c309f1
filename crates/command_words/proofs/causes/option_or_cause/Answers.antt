use Rattle.std.proofs.Common.{◌∙◌, sym}
use Rattle.command_words.proofs.Finding.{once, twice}
use Rattle.command_words.proofs.causes.option_or_cause.Goals as goal

pub returns-in_ok-from_str-in-Some : goal.returns-in_ok-from_str-in-Some
returns-in_ok-from_str-in-Some c =
    twice c.args.command c.args.before.now c.in-Some.option c.args.word.now _
    (sym c.option_spelled.ensures ∙ c.in-Some.is)
    (sym c.has_option.ensures ∙ c.if-has_option.true) c.in_ok-from_str-in-Some.ensures

pub returns-in-Some-2 : goal.returns-in-Some-2
returns-in-Some-2 c = (
  sym c.option_spelled.ensures ∙ c.in-Some.is,
  once c.args.command c.args.before.now c.in-Some.option c.args.word.now
      (sym c.has_option.ensures ∙ c.if-has_option.false),
)
