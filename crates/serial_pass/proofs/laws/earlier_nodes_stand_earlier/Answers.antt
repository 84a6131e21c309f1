use Rattle.serial_pass.proofs.Legal.{stands_before}
use Rattle.serial_pass.proofs.laws.earlier_nodes_stand_earlier.Goals as goal

pub returns : goal.returns
returns c = λ plan order m index serial lm lp before. stands_before plan order serial m index 0 lm lp before
