use Rattle.bp_run.proofs.SomeOutcome.{some_outcome, some_edited, some_listed}
use Rattle.bp_run.proofs.laws.some_outcome.Goals as goal

pub returns-clause-listed : goal.returns-clause-listed
returns-clause-listed c = λ path files. some_listed c.one_list.ensures.some c.one_load.ensures.some path files

pub returns-clause-outcome : goal.returns-clause-outcome
returns-clause-outcome c =
    some_outcome c.one_list.ensures.some c.one_load.ensures.some c.some_tree.ensures c.some_graph.ensures.some
    c.some_text.ensures c.earlier_graphs.ensures c.some_order.ensures c.one_format.ensures.some c.one_edit.ensures.some

pub returns-clause-edited : goal.returns-clause-edited
returns-clause-edited c =
    some_edited c.one_list.ensures.some c.one_load.ensures.some c.some_tree.ensures c.some_graph.ensures.some
    c.some_text.ensures c.earlier_graphs.ensures c.some_order.ensures c.one_format.ensures.some c.one_edit.ensures.some
