use Rattle.std.proofs.Common.{◌≡◌, drop}
use Rattle.linkage_mutator.specs.Plugins.{kind_named}
use Rattle.linkage_mutator.proofs.plugins_ask.kind_by_walk.Given as goal

abbrev pub invariant-loop-item : goal.invariant-loop-item
invariant-loop-item l = kind_named (drop l.item-index l.mods) l.name ≡ kind_named l.mods l.name
