use Rattle.bp_parser.proofs.OneMeaning.{one_meaning}
use Rattle.bp_parser.proofs.laws.one_meaning.Goals as goal

pub returns : goal.returns
returns c = one_meaning
