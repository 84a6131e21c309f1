use Rattle.std.proofs.Common.{refl}
use Rattle.path_patterns.proofs.Progress.{walk_begins}
use Rattle.path_patterns.proofs.levels.walk.Goals as goal

pub levels-init : goal.levels-init
levels-init g c = (
  walk_begins c.args.parts.now c.args.first _ _ _ _ (cc) c.in_ok-level.ensures,
  refl,
  c.requires.ready,
)
