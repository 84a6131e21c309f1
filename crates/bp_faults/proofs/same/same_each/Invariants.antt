use Rattle.std.proofs.Common.{◌≡◌, drop}
use Rattle.std.specs.Cmp.Lexicographic.{pointwise}
use Rattle.bp_faults.proofs.same.same_each.Given as goal

abbrev pub invariant-loop-item : goal.invariant-loop-item
invariant-loop-item g l =
    pointwise g.T.Same.same_as l.items l.others ≡ pointwise g.T.Same.same_as (drop l.item-index l.items) l.rest
