use Rattle.serial_pass.proofs.Gathering.{pass_gathers}
use Rattle.serial_pass.proofs.laws.pass_gathers.Goals as goal

pub returns : goal.returns
returns g c = λ mean step plan outcome is free right means. pass_gathers mean step plan is free right outcome means
