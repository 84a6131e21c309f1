use Rattle.std.proofs.Common.{◌≡◌, drop, slice_get}
use Rattle.variant_graphs.specs.Inside.{kept_places}
use Rattle.variant_graphs.proofs.limits.kept_at.Given as goal

-- what is left is looked for in the edges that are left
abbrev pub invariant-loop-edge : goal.invariant-loop-edge
invariant-loop-edge l =
    slice_get (kept_places l.counts (drop l.edge-index l.edges)) l.left
    ≡ slice_get (kept_places l.counts l.edges) l.number
