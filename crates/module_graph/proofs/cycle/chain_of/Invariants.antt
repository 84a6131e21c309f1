use Rattle.std.proofs.Common.{◌≡◌, ◌∷◌, map, take}
use Rattle.graph_nodes.specs.declared.graph.Edge.{Edge}
use Rattle.graph_nodes.specs.Names.{name_at}
use Rattle.module_graph.proofs.cycle.chain_of.Given as goal

abbrev pub invariant-loop-edge : goal.invariant-loop-edge
invariant-loop-edge l =
    l.chain.items
    ≡ name_at l.names l.node ∷ map (λ (e : Edge). name_at l.names e.to.0) (l.fn.first ∷ take l.edge-index l.rest)
