use Rattle.std.proofs.Common.{◌∙◌, ap, sym}
use Rattle.std.specs.Option.{option_copied}
use Rattle.command_words.specs.Words.{option_value}
use Rattle.command_words.proofs.Finding.{equal_first}
use Rattle.command_words.proofs.causes.path_cause.Goals as goal

pub returns-in_ok-copy-in-Some-equal_option : goal.returns-in_ok-copy-in-Some-equal_option
returns-in_ok-copy-in-Some-equal_option c =
    equal_first c.args.command (option_value c.args.pairs.now) c.in-Some.out.now _ c.in-Some-equal_option.option
    (sym c.value_given.ensures ∙ ap option_copied c.in-Some.is)
    (sym c.equal_option.ensures ∙ c.in-Some-equal_option.is) c.in_ok-copy-in-Some-equal_option.ensures
