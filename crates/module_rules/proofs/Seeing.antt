-- What is seen at an index.
use Rattle.std.proofs.Common.{◌≡◌, ◌<◌, ℕ, zero, suc, List, [], ◌∷◌, length, map, get_or, ap, subst, sym, arith}
use Rattle.std.specs.List.{AllByRecursion}
use Rattle.graph_nodes.specs.declared.graph.Edge.{Edge}
use Rattle.graph_nodes.specs.declared.graph.Node.{Node}
use Rattle.graph_nodes.specs.Nodes.{targets}

-- what holds of all holds of the item read at an index
pub all_within : {X : Type 0} (Holds : X → Type 0) (xs : List X) (n : ℕ) (x : X) → n < length xs → x ≡ get_or xs n x
    → AllByRecursion Holds xs → Holds x
all_within Holds [] n x lt is all = absurd (omega arith)
all_within Holds (y ∷ xs) zero x lt is all = subst Holds (sym is) all.0
all_within Holds (y ∷ xs) (suc n) x lt is all = all_within Holds xs n x (omega arith) is all.1

-- the targets of a node's edges
pub targets_at : {P : Type 0} (nodes : List (Node P)) (n : ℕ) (x : Node P) → n < length nodes → x ≡ get_or nodes n x
    → targets nodes n ≡ map (λ (e : Edge). e.to.0) x.edges
targets_at [] n x lt is = absurd (omega arith)
targets_at (y ∷ xs) zero x lt is = ap (λ (z : Node _). map (λ (e : Edge). e.to.0) z.edges) (sym is)
targets_at (y ∷ xs) (suc n) x lt is = targets_at xs n x (omega arith) is
