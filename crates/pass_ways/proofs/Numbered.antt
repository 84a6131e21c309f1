-- Nodes by their numbers.
use Rattle.std.proofs.Common.{◌≡◌, ℕ, List, [], ◌∷◌, map, refl, ap}
use Rattle.bp_faults.specs.declared.ids.NodeId.{NodeId}
use Rattle.serial_pass.specs.Orders.{numbers}

abbrev pub nodes_numbered : List ℕ → List NodeId
nodes_numbered ns = map (λ n. record { 0 = n }) ns

pub numbers-nodes_numbered : (ns : List ℕ) → numbers (nodes_numbered ns) ≡ ns
numbers-nodes_numbered [] = refl
numbers-nodes_numbered (n ∷ ns) = ap (λ l. n ∷ l) (numbers-nodes_numbered ns)
