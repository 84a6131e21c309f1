use Rattle.bp_parser.proofs.Fresh.{spelled_tree}
use Rattle.bp_parser.proofs.laws.spelled_definitions_are_trees.Goals as goal

pub returns : goal.returns
returns c = spelled_tree
