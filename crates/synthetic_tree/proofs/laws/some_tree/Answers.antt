use Rattle.synthetic_tree.proofs.SomeTree.{some_tree}
use Rattle.synthetic_tree.proofs.laws.some_tree.Goals as goal

pub returns : goal.returns
returns c = some_tree
