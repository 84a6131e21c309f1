use Rattle.bp_load.proofs.OneLoad.{raw_once}
use Rattle.bp_load.proofs.SomeLoad.{some_raw}
use Rattle.bp_load.proofs.laws.one_raw.Goals as goal

pub returns-clause-some : goal.returns-clause-some
returns-clause-some c = some_raw c.list_or_fault.ensures.either c.tree_or_fault.ensures.either

pub returns-clause-one : goal.returns-clause-one
returns-clause-one c = raw_once c.one_meaning.ensures c.one_meaning-2.ensures
