-- What stands at a node's number is the node's.
use Rattle.std.proofs.Common.{◌≡◌, ℕ, zero, suc, List, [], ◌∷◌, map, Some}
use Rattle.std.specs.Prelude.{slice_get}
use Rattle.graph_nodes.specs.declared.graph.Edge.{Edge}
use Rattle.graph_nodes.specs.declared.graph.Node.{Node}
use Rattle.graph_nodes.specs.Nodes.{edges_at, targets}

pub edges_stand : {P : Type 0} (nodes : List (Node P)) (n : ℕ) (x : Node P) → slice_get nodes n ≡ Some x
    → (edges_at nodes n ≡ x.edges) × (targets nodes n ≡ map (λ (e : Edge). e.to.0) x.edges)
edges_stand [] n x at = cc
edges_stand (y ∷ ys) zero x at =
    let same : y ≡ x = cc in ((λ i. (same i).edges), λ i. map (λ (e : Edge). e.to.0) (same i).edges)
edges_stand (y ∷ ys) (suc n) x at = edges_stand ys n x at
