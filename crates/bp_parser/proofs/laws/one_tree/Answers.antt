use Rattle.bp_parser.proofs.OneMeaning.{one_tree}
use Rattle.bp_parser.proofs.laws.one_tree.Goals as goal

pub returns : goal.returns
returns c = one_tree
