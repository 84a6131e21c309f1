use Rattle.command_words.proofs.HelpParts.{help_is}
use Rattle.command_words.proofs.laws.help_is_its_parts.Goals as goal

pub returns : goal.returns
returns c = help_is
