use Rattle.command_words.proofs.HelpParts.{headed}
use Rattle.command_words.proofs.laws.each_part_is_of_its_command.Goals as goal

pub returns : goal.returns
returns c = headed
