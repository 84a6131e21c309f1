use Rattle.std.proofs.Common.{◌<◌, ◌^◌, length, subst, sym}
use Rattle.bp_pipeline.proofs.Counting.{edges_few}
use Rattle.graph_nodes.specs.Nodes.{all_edges}
use Rattle.bp_pipeline.proofs.sizes.sizes_of.Goals as goal

pub edge_count-requires : goal.edge_count-requires
edge_count-requires c =
    subst (λ nodes. length (all_edges nodes) < 2 ^ 32) (sym c.as_slice-nodes.ensures)
    (edges_few c.args.g.now.nodes (2 ^ 32) c.requires.few_edges)
