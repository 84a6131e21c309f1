use Rattle.serial_pass.proofs.Induction.{result_unique}
use Rattle.serial_pass.proofs.laws.one_solution.Goals as goal

pub returns : goal.returns
returns g c = λ mean plan f is free meets n lt. result_unique plan is.ends free mean f meets n lt
