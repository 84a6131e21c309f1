use Rattle.serial_pass.proofs.OutEquations.{out_equation}
use Rattle.serial_pass.proofs.laws.outs_meet_their_equation.Goals as goal

pub returns : goal.returns
returns g c = λ mean plan outs n d is free outcome lt. out_equation mean plan outs outcome is free n d lt
