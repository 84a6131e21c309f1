use Rattle.serial_pass.proofs.Unique.{before_node}
use Rattle.serial_pass.proofs.laws.predecessors_come_before.Goals as goal

pub returns : goal.returns
returns c = λ plan n is free lt. before_node plan is.ends free n lt
