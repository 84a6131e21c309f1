use Rattle.bp_format.proofs.OneFormat.{Readings}
use Rattle.bp_format.proofs.OneEdit.{one_edit, some_edit}
use Rattle.bp_format.proofs.laws.one_edit.Goals as goal

pub returns-clause-one : goal.returns-clause-one
returns-clause-one c =
    let law : Readings = record {
      one_list = c.one_token_list.ensures;
      some = c.list_or_fault.ensures.either;
      not_both = c.list_or_fault.ensures.never_both;
      one_fault = c.one_fault.ensures;
      one_tree = c.one_tree.ensures;
      some_tree = c.tree_or_fault.ensures.either;
      no_tree = c.tree_or_fault.ensures.never_both;
      one_wrong = c.one_fault-2.ensures;
    } in
    one_edit law

pub returns-clause-some : goal.returns-clause-some
returns-clause-some c =
    let law : Readings = record {
      one_list = c.one_token_list.ensures;
      some = c.list_or_fault.ensures.either;
      not_both = c.list_or_fault.ensures.never_both;
      one_fault = c.one_fault.ensures;
      one_tree = c.one_tree.ensures;
      some_tree = c.tree_or_fault.ensures.either;
      no_tree = c.tree_or_fault.ensures.never_both;
      one_wrong = c.one_fault-2.ensures;
    } in
    some_edit law c.tokens_stand_within.ensures c.places_rise.ensures
