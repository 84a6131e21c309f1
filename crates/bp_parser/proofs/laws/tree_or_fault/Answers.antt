use Rattle.bp_parser.proofs.SomeMeaning.{some_meaning}
use Rattle.bp_parser.proofs.laws.tree_or_fault.Goals as goal

pub returns-clause-either : goal.returns-clause-either
returns-clause-either c = some_meaning
