use Rattle.std.proofs.Common.{◌≡◌, drop, map}
use Rattle.std.specs.Arc.{arc_value}
use Rattle.std.specs.Cmp.Lexicographic.{pointwise}
use Rattle.bp_faults.proofs.same.same_shared.Given as goal

abbrev pub invariant-loop-item : goal.invariant-loop-item
invariant-loop-item g l =
    pointwise g.T.Same.same_as (map arc_value l.items) (map arc_value l.others)
    ≡ pointwise g.T.Same.same_as (map arc_value (drop l.item-index l.items)) (map arc_value l.rest)
