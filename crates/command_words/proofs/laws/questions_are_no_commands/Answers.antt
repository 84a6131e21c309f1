use Rattle.command_words.proofs.NoCommand.{no_question}
use Rattle.command_words.proofs.laws.questions_are_no_commands.Goals as goal

pub returns : goal.returns
returns c = no_question
