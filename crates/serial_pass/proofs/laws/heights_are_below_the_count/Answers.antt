use Rattle.serial_pass.proofs.Induction.{height_below}
use Rattle.serial_pass.proofs.laws.heights_are_below_the_count.Goals as goal

pub returns : goal.returns
returns c = λ plan n is free lt. height_below plan is.ends free n lt
