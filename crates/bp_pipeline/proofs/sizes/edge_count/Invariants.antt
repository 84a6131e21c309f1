use Rattle.std.proofs.Common.{◌≡◌, length, take}
use Rattle.graph_nodes.specs.Nodes.{all_edges}
use Rattle.bp_pipeline.proofs.sizes.edge_count.Given as goal

abbrev pub invariant-loop-node : goal.invariant-loop-node
invariant-loop-node l = l.count ≡ length (all_edges (take l.node-index l.nodes))
