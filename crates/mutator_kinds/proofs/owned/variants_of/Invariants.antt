use Rattle.std.proofs.Common.{◌≡◌, map}
use Rattle.std.specs.Arc.{arc_value}
use Rattle.mutator_kinds.specs.BottomUp.{variants_of}
use Rattle.mutator_kinds.proofs.owned.variants_of.Given as goal

abbrev pub invariant-loop-out : goal.invariant-loop-out
invariant-loop-out g l = l.lists.items ≡ variants_of (map arc_value l.yielded)
