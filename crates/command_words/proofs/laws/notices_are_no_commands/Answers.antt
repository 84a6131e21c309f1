use Rattle.command_words.proofs.NoCommand.{no_command}
use Rattle.command_words.proofs.laws.notices_are_no_commands.Goals as goal

pub returns : goal.returns
returns c = no_command
