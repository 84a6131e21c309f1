use Rattle.serial_pass.proofs.Unrolled.{result_equation}
use Rattle.serial_pass.proofs.laws.results_meet_their_equation.Goals as goal

pub returns : goal.returns
returns g c = λ mean plan n is free lt. result_equation plan is.ends free mean n lt
