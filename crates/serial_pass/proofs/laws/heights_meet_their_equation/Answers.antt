use Rattle.serial_pass.proofs.Unrolled.{height_equation}
use Rattle.serial_pass.proofs.laws.heights_meet_their_equation.Goals as goal

pub returns : goal.returns
returns c = λ plan n is free lt. height_equation plan is.ends free n lt
