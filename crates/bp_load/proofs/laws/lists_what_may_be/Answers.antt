use Rattle.bp_load.proofs.Sound.{lists_what_may_be}
use Rattle.bp_load.proofs.laws.lists_what_may_be.Goals as goal

pub returns : goal.returns
returns c = lists_what_may_be
