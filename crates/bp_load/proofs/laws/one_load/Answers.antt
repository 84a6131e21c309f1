use Rattle.bp_load.proofs.OneLoad.{load_once}
use Rattle.bp_load.proofs.SomeLoad.{some_load}
use Rattle.bp_load.proofs.laws.one_load.Goals as goal

pub returns-clause-some : goal.returns-clause-some
returns-clause-some c = some_load c.one_raw.ensures.some

pub returns-clause-one : goal.returns-clause-one
returns-clause-one c = load_once c.one_raw.ensures.one
