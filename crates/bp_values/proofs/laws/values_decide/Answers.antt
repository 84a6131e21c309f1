use Rattle.bp_values.proofs.ByName.{values_decide}
use Rattle.bp_values.proofs.laws.values_decide.Goals as goal

pub returns : goal.returns
returns c = values_decide
