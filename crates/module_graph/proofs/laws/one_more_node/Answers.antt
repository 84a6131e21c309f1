use Rattle.graph_nodes.specs.declared.graph.Node.{Node}
use Rattle.module_graph.specs.Graphs.{outward}
use Rattle.std.proofs.Common.{map}
use Rattle.module_graph.proofs.laws.one_more_node.Goals as goal

pub returns : goal.returns
returns g c = λ nodes x. c.one_more_item.ensures (λ n (y : Node _). map (outward n) y.edges) nodes x
