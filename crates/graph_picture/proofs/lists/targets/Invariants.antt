use Rattle.std.proofs.Common.{◌≡◌, map, take}
use Rattle.graph_picture.specs.Growing.{target}
use Rattle.graph_picture.proofs.lists.targets.Given as goal

abbrev pub invariant-loop-arrow : goal.invariant-loop-arrow
invariant-loop-arrow l = l.list.items ≡ map target (take l.arrow-index l.edges)
