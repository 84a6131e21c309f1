use Rattle.bp_props.proofs.Ids.{ids_are_listed}
use Rattle.bp_props.proofs.laws.ids_are_listed.Goals as goal

pub returns : goal.returns
returns c = ids_are_listed
