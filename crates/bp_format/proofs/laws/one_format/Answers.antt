use Rattle.bp_format.proofs.OneFormat.{Readings, one_format, some_format}
use Rattle.bp_format.proofs.laws.one_format.Goals as goal

pub returns-clause-one : goal.returns-clause-one
returns-clause-one c =
    let law : Readings = record {
      one_list = c.one_token_list.ensures;
      some = c.list_or_fault.ensures.either;
      not_both = c.list_or_fault.ensures.never_both;
      one_fault = c.one_fault.ensures;
      one_tree = c.one_tree.ensures;
      some_tree = c.tree_or_fault.ensures.either;
      no_tree = c.tree_or_fault.ensures.never_both;
      one_wrong = c.one_fault-2.ensures;
    } in
    one_format law

pub returns-clause-some : goal.returns-clause-some
returns-clause-some c =
    let law : Readings = record {
      one_list = c.one_token_list.ensures;
      some = c.list_or_fault.ensures.either;
      not_both = c.list_or_fault.ensures.never_both;
      one_fault = c.one_fault.ensures;
      one_tree = c.one_tree.ensures;
      some_tree = c.tree_or_fault.ensures.either;
      no_tree = c.tree_or_fault.ensures.never_both;
      one_wrong = c.one_fault-2.ensures;
    } in
    some_format law
