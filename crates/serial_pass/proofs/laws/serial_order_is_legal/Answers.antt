use Rattle.serial_pass.proofs.Legal.{serial_is_legal}
use Rattle.serial_pass.proofs.laws.serial_order_is_legal.Goals as goal

pub returns : goal.returns
returns c = λ plan order is free serial. serial_is_legal plan order serial is.ends free
