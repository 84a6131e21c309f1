use Rattle.bp_load.proofs.OneList.{one_list}
use Rattle.bp_load.proofs.SomeList.{some_list}
use Rattle.bp_load.proofs.laws.one_list.Goals as goal

pub returns-clause-some : goal.returns-clause-some
returns-clause-some c = some_list

pub returns-clause-one : goal.returns-clause-one
returns-clause-one c = one_list
