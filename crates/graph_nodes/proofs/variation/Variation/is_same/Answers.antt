use Rattle.graph_nodes.proofs.Sames.{told_same}
use Rattle.graph_nodes.proofs.variation.Variation.is_same.Goals as goal

pub returns-clause-test : goal.returns-clause-test
returns-clause-test c = told_same c.is_equal.result c.args.self c.args.other c.is_equal.ensures
