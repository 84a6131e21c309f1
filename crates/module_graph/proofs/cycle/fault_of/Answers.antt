use Rattle.std.proofs.Common.{◌≡◌, ◌∙◌, ◌∷◌, [], ℕ, List, map, ap}
use Rattle.bp_faults.specs.declared.kind.FaultKind.TheVariants.{Cycle}
use Rattle.graph_nodes.specs.declared.graph.Edge.{Edge}
use Rattle.graph_nodes.specs.Nodes.{edges_at}
use Rattle.graph_nodes.specs.Names.{name_at}
use Rattle.module_graph.specs.Graphs.{edges_of}
use Rattle.module_graph.specs.Cycles.{cycle_fault}
use Rattle.module_graph.proofs.Nearer.{nearest_is}
use Rattle.module_graph.proofs.cycle.fault_of.Goals as goal

fault_is : (names : List (List ℕ)) (s : ℕ) (first : Edge) (rest : List Edge) (subject : List ℕ) (chain : List (List ℕ))
    → subject ≡ [] → chain ≡ name_at names s ∷ map (λ (e : Edge). name_at names e.to.0) (first ∷ rest)
    → record { kind = Cycle; at = first.at; subject = subject; chain = chain } ≡ cycle_fault names s first rest
fault_is names s first rest subject chain none is =
    λ i. record { kind = Cycle; at = first.at; subject = none i; chain = is i }

pub returns : goal.returns
returns g c =
    let nodes = c.args.g.now.nodes in
    let names = c.args.names.now in
    let start = c.args.start.now in (
      start.node,
      start.first.edge,
      c.in_ok-rest.rest.items,
      record {
        start = c.requires.start.1;
        begins =
            nearest_is (edges_of nodes) start.node start.found.items c.requires.start.3
            (edges_at nodes start.node) start.first c.requires.start.4;
        goes = c.in_ok-rest.ensures;
      },
      fault_is names start.node start.first.edge c.in_ok-rest.rest.items c.new-2.result c.new-3.result
          (c.new-2.ensures ∙ c.new.ensures.bytes)
          (c.new-3.ensures
          ∙ c.in_ok-chain.ensures
          ∙ ap (λ (rest : List Edge). name_at names start.node
          ∷ map (λ (e : Edge). name_at names e.to.0) (start.first.edge ∷ rest)) c.deref.ensures.value),
    )
