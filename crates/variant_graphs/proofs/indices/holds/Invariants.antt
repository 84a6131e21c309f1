use Rattle.std.proofs.Common.{◌≡◌, drop}
use Rattle.std.specs.List.{list_any}
use Rattle.graph_nodes.specs.Same.{same}
use Rattle.variant_graphs.proofs.indices.holds.Given as goal

abbrev pub invariant-loop-other : goal.invariant-loop-other
invariant-loop-other l = list_any (same l.v) (drop l.other-index l.list) ≡ list_any (same l.v) l.list
