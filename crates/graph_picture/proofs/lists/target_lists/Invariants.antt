use Rattle.std.proofs.Common.{◌≡◌, map, take}
use Rattle.graph_picture.specs.Growing.{targets_of}
use Rattle.graph_picture.proofs.lists.target_lists.Given as goal

abbrev pub invariant-loop-variant : goal.invariant-loop-variant
invariant-loop-variant l = l.lists.items ≡ map targets_of (take l.variant-index l.variants)
