-- The graphs and the rule of the tests.
use Rattle.std.specs.Prelude.{◌≡◌, ◌<◌, ◌≤◌, ◌==◌, ◌+◌, ℕ, List, [], ◌∷◌, length, replicate, Ok, ⊤, if◌then◌else◌}
use Rattle.std.specs.List.{AllByRecursion}
use Rattle.bp_faults.specs.declared.ids.NodeId.{NodeId}
use Rattle.graph_nodes.specs.declared.graph.Edge.{Edge}
use Rattle.graph_nodes.specs.declared.graph.Node.{Node}
use Rattle.graph_nodes.specs.declared.variation.Variation.{Variation}
use Rattle.graph_nodes.specs.declared.variation.Variation.TheVariants.{Empty, Recovery, Vendor}
use Rattle.graph_nodes.specs.declared.variations.Axis.TheVariants.{Image}
use Rattle.mutator_rules.specs.Meaning.{TransitionMeaning}

-- A node of the module with its number, without variations, and with at most four edges to nodes.
pub record IsNodeOf (count n : ℕ) (x : Node NodeId) : Type 0 where
  pub numbered : x.«module».0 ≡ n
  pub bare : x.vars ≡ replicate 5 Empty
  pub inside : AllByRecursion (λ (e : Edge). e.to.0 < count) x.edges
  pub few : length x.edges ≤ 4

-- Nodes that are numbered from k on.
abbrev pub HasNodes : ℕ → ℕ → List (Node NodeId) → Type 0
HasNodes count k [] = ⊤
HasNodes count k (x ∷ xs) = IsNodeOf count k x × HasNodes count (k + 1) xs

-- Each node has the empty variation, and two have another by themselves.
abbrev pub own_of : ℕ → ℕ → ℕ → List Variation
own_of vendor recovery n =
    if n == vendor then Empty ∷ Vendor ∷ [] else (if n == recovery then Empty ∷ Recovery ∷ [] else Empty ∷ [])

-- What is handed on is the variation itself, but one node takes the empty one. A payload is the node's number.
abbrev pub small_meaning : ℕ → ℕ → ℕ → TransitionMeaning NodeId
small_meaning vendor recovery stops = record {
  axis = Image;
  split = λ nodes n. Ok (own_of vendor recovery n);
  outgoing = λ nodes n kind v. v;
  incoming = λ nodes n w. if n == stops then Empty else w;
  mutate = λ nodes n ins. Ok (record { 0 = n });
}
