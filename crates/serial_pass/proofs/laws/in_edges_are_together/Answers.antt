use Rattle.serial_pass.proofs.InEdgesPlaced.{placed}
use Rattle.serial_pass.proofs.laws.in_edges_are_together.Goals as goal

pub returns : goal.returns
returns c = λ edges n by. placed edges n by
