use Rattle.bp_load.proofs.Above.{ancestors_first}
use Rattle.bp_load.proofs.laws.ancestors_stand_first.Goals as goal

pub returns : goal.returns
returns c = ancestors_first
