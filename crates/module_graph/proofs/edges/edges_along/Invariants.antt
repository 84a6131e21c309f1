use Rattle.std.proofs.Common.{◌≡◌, ◌++◌, map, take}
use Rattle.graph_nodes.specs.Numbered.{by_number}
use Rattle.module_graph.specs.Planned.{directed_edge}
use Rattle.module_graph.proofs.edges.edges_along.Given as goal

abbrev pub invariant-loop-node : goal.invariant-loop-node
invariant-loop-node g l =
    (l.n ≡ l.node-index)
    × (l.edges.items ≡ by_number (λ n x. map (directed_edge l.dir n) x.edges) 0 (take l.node-index l.node-items))

abbrev pub invariant-loop-edge : goal.invariant-loop-edge
invariant-loop-edge g l =
    (l.n ≡ l.node-index)
    × (l.edges.items ≡ by_number (λ n x. map (directed_edge l.dir n) x.edges) 0 (take l.node-index l.node-items)
    ++ map (directed_edge l.dir l.n) (take l.edge-index l.edge-items))
