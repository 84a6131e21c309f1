use Rattle.std.proofs.Common.{take}
use Rattle.info_mutators.specs.Inside.{AreNames}
use Rattle.info_mutators.proofs.exports.names_of.Given as goal

abbrev pub invariant-loop-item : goal.invariant-loop-item
invariant-loop-item l = AreNames (take l.item-index l.items) l.names
