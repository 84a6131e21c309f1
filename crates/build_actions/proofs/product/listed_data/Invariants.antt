use Rattle.std.proofs.Common.{◌≡◌, take}
use Rattle.std.specs.List.{filter_map}
use Rattle.build_actions.specs.Products.{data_output}
use Rattle.build_actions.proofs.product.listed_data.Given as goal

abbrev pub invariant-loop-edge : goal.invariant-loop-edge
invariant-loop-edge l = l.outputs.items ≡ filter_map (data_output l.modules l.graph.nodes) (take l.edge-index l.edges)
