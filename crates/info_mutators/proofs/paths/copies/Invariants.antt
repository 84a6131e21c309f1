use Rattle.std.proofs.Common.{◌≡◌, take}
use Rattle.info_mutators.specs.Inside.{values_behind}
use Rattle.info_mutators.proofs.paths.copies.Given as goal

abbrev pub invariant-loop-path : goal.invariant-loop-path
invariant-loop-path l = l.list.items ≡ values_behind (take l.path-index l.paths)
