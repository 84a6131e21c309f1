use Rattle.std.proofs.Common.{◌<◌}
use Rattle.serial_pass.proofs.Predecessors.{all_predecessors}
use Rattle.serial_pass.proofs.laws.predecessors_are_less.Goals as goal

pub returns : goal.returns
returns c = λ rank edges n rises. all_predecessors (λ m k. rank m < rank k) edges n rises
