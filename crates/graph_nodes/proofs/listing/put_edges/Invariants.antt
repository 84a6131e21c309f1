use Rattle.std.proofs.Common.{◌≡◌, ◌++◌, map, take, string_bytes}
use Rattle.std.specs.List.{flat_map}
use Rattle.graph_nodes.specs.GraphText.{edge_line}
use Rattle.bp_faults.specs.Characters.{ended_line}
use Rattle.graph_nodes.proofs.listing.put_edges.Given as goal

-- the lines of the edges so far
abbrev pub invariant-loop-edge : goal.invariant-loop-edge
invariant-loop-edge l =
    string_bytes l.text ≡ string_bytes l.fn.text ++ flat_map ended_line (map edge_line (take l.edge-index l.edges))
