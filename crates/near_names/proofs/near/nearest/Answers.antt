use Rattle.std.proofs.Common.{arith}
use Rattle.std.proofs.lemmas.Grind.{common_steps}
use Rattle.near_names.proofs.Least.{within_is_nearest}
use Rattle.near_names.proofs.near.nearest.Goals as goal

pub returns : goal.returns
returns c = grind (arith, common_steps, within_is_nearest c.args.word.now c.args.known.now)
