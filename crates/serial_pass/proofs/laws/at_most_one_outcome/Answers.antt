use Rattle.serial_pass.proofs.Unique.{outcome_unique}
use Rattle.serial_pass.proofs.laws.at_most_one_outcome.Goals as goal

pub returns : goal.returns
returns g c = λ mean plan outcome other. outcome_unique mean plan outcome other
