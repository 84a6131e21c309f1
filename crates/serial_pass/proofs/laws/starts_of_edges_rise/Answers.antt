use Rattle.serial_pass.proofs.InEdgesPlaced.{below_rises, below_le_length}
use Rattle.serial_pass.proofs.laws.starts_of_edges_rise.Goals as goal

pub returns : goal.returns
returns c = λ edges n. (below_rises edges n, below_le_length edges n)
