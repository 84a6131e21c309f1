use Rattle.serial_pass.proofs.OutEquations.{many_outs}
use Rattle.serial_pass.proofs.laws.outs_are_many.Goals as goal

pub returns : goal.returns
returns g c = λ mean plan outs outcome. many_outs mean plan outs outcome
