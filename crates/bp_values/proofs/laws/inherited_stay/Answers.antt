use Rattle.bp_values.proofs.Inherited.{inherited_stay}
use Rattle.bp_values.proofs.laws.inherited_stay.Goals as goal

pub returns : goal.returns
returns c = inherited_stay
