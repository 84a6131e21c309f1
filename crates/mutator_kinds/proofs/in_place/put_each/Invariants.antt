use Rattle.std.proofs.Common.{◌≡◌, length, map}
use Rattle.std.specs.Arc.{arc_value}
use Rattle.mutator_kinds.specs.BottomUp.{asked_of}
use Rattle.mutator_kinds.specs.Inside.{with_firsts}
use Rattle.mutator_kinds.proofs.in_place.put_each.Given as goal

abbrev pub invariant-loop-out : goal.invariant-loop-out
invariant-loop-out g l =
    (l.nodes.items ≡ with_firsts l.axis l.fn.nodes.items (map arc_value l.yielded))
    × (l.asked.items ≡ asked_of (map arc_value l.yielded)) × (l.n ≡ length l.yielded)
