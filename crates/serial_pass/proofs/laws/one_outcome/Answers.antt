use Rattle.serial_pass.proofs.Outcome.{outcome_exists}
use Rattle.serial_pass.proofs.Unique.{outcome_unique}
use Rattle.serial_pass.proofs.laws.one_outcome.Goals as goal

pub returns : goal.returns
returns g c =
    λ mean plan is free. let it = outcome_exists mean plan is free in
    (it.0, it.1, λ other is_other. outcome_unique mean plan other it.0 is_other it.1)
