use Rattle.bp_props.proofs.Ids.{ids_ascend}
use Rattle.bp_props.proofs.laws.ids_ascend.Goals as goal

pub returns : goal.returns
returns c = ids_ascend
