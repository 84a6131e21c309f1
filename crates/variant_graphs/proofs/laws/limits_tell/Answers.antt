use Rattle.variant_graphs.proofs.Telling.{limits_tell}
use Rattle.variant_graphs.proofs.laws.limits_tell.Goals as goal

pub returns : goal.returns
returns g c = λ nodes. limits_tell nodes
