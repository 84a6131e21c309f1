use Rattle.bp_parser.proofs.OneMeaning.{one_fault}
use Rattle.bp_parser.proofs.laws.one_fault.Goals as goal

pub returns : goal.returns
returns c = one_fault
