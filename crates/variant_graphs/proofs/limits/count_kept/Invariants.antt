use Rattle.std.proofs.Common.{◌≡◌, ◌≤◌, length, take}
use Rattle.variant_graphs.specs.Inside.{kept_places}
use Rattle.variant_graphs.proofs.limits.count_kept.Given as goal

abbrev pub invariant-loop-edge : goal.invariant-loop-edge
invariant-loop-edge l = (l.kept ≡ length (kept_places l.counts (take l.edge-index l.edges))) × (l.kept ≤ l.edge-index)
