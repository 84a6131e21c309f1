use Rattle.std.proofs.Common.{◌≡◌, map, take}
use Rattle.std.specs.Arc.{arc_value}
use Rattle.info_mutators.specs.Dependencies.{dependencies_of}
use Rattle.info_mutators.proofs.info.dependencies_of.Given as goal

abbrev pub invariant-loop-index : goal.invariant-loop-index
invariant-loop-index l = l.list.items ≡ dependencies_of l.mods l.g.nodes (take l.index l.edges) (map arc_value l.made)
