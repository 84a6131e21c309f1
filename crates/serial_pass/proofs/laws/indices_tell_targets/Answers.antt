use Rattle.serial_pass.proofs.InEdgesPlaced.{stands_if_below, below_if_stands}
use Rattle.serial_pass.proofs.laws.indices_tell_targets.Goals as goal

pub returns : goal.returns
returns c = λ edges n i e by lt. (stands_if_below edges n i e by lt, below_if_stands edges n i e by)
