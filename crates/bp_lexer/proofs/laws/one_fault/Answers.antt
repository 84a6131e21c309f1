use Rattle.bp_lexer.proofs.OneMeaning.{one_fault}
use Rattle.bp_lexer.proofs.laws.one_fault.Goals as goal

pub returns : goal.returns
returns c = one_fault
