use Rattle.bp_run.proofs.OneOutcome.{one_outcome}
use Rattle.bp_run.proofs.laws.one_outcome.Goals as goal

pub returns : goal.returns
returns c =
    one_outcome c.one_list.ensures.one c.one_load.ensures.one c.one_tree.ensures c.one_graph.ensures
    c.at_most_one_outcome.ensures c.one_order.ensures c.one_format.ensures.one c.one_edit.ensures.one
