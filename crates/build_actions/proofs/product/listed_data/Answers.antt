use Rattle.std.proofs.Common.{[], ◌++◌, sym, ◌∙◌}
use Rattle.std.specs.List.{cons_option}
use Rattle.graph_nodes.specs.declared.graph.EdgeKind.TheVariants.{Defaults}
use Rattle.build_actions.specs.Products.{data_output}
use Rattle.build_actions.proofs.Gathered.{filter_map_more}
use Rattle.build_actions.proofs.product.listed_data.Goals as goal

pub loop-edge-preserved : goal.loop-edge-preserved
loop-edge-preserved c =
    c.in_ok-push_some.ensures
    ∙ (λ k. c.loop-edge.invariant k ++ cons_option (c.in_ok-data_output.ensures k) [])
    ∙ sym (filter_map_more (data_output c.args.modules.now c.args.graph.now.nodes) c.args.edges.now
    c.loop-edge.edge-index
    (record { kind = Defaults; to = record { 0 = 0 }; at = record { file = 0; line = 0; col = 0 } })
    c.loop-edge-test.true)
