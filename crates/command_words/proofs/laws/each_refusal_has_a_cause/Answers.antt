use Rattle.command_words.proofs.Refusing.{refused}
use Rattle.command_words.proofs.laws.each_refusal_has_a_cause.Goals as goal

pub returns : goal.returns
returns c = refused
