use Rattle.std.proofs.Common.{◌≡◌, ◌+◌, ◌≤◌, length, take}
use Rattle.bp_faults.specs.declared.limits.TheConstants.{MOST_EDGES}
use Rattle.variant_graphs.specs.Inside.{new_places, copies_of, kept_places}
use Rattle.variant_graphs.proofs.limits.edge_beyond.Given as goal

abbrev pub invariant-loop-n : goal.invariant-loop-n
invariant-loop-n g l = (l.total ≡ length (new_places l.counts (take l.n l.g.nodes))) × (l.total ≤ MOST_EDGES)

abbrev pub invariant-loop-copy : goal.invariant-loop-copy
invariant-loop-copy g l =
    (l.total ≡ length (new_places l.counts (take l.n l.g.nodes))
    + length (copies_of l._copy (kept_places l.counts l.edges))) × (l.total ≤ MOST_EDGES)
