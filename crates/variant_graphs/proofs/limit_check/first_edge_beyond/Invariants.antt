use Rattle.std.proofs.Common.{◌≡◌, drop}
use Rattle.std.specs.Prelude.{slice_get}
use Rattle.bp_faults.specs.declared.limits.TheConstants.{MOST_EDGES}
use Rattle.graph_nodes.specs.Nodes.{all_edges}
use Rattle.variant_graphs.proofs.limit_check.first_edge_beyond.Given as goal

-- the edge beyond the limit, among those that are left
abbrev pub invariant-loop-node : goal.invariant-loop-node
invariant-loop-node g l =
    slice_get (all_edges (drop l.node-index l.g.nodes)) l.left ≡ slice_get (all_edges l.g.nodes) MOST_EDGES
