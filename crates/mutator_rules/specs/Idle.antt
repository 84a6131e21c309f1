-- Rules that leave every node of a graph as it is.
use Rattle.std.specs.Prelude.{◌≡◌, ◌<◌, ℕ, List, [], ◌∷◌, Some, Result, Ok, slice_get, length, map, Contains}
use Rattle.std.specs.List.{AllByRecursion}
use Rattle.bp_faults.specs.declared.fault.Fault.{Fault}
use Rattle.graph_nodes.specs.declared.graph.EdgeKind.{EdgeKind}
use Rattle.graph_nodes.specs.declared.graph.Node.{Node}
use Rattle.graph_nodes.specs.declared.variation.Variation.TheVariants.{Empty}
use Rattle.mutator_rules.specs.declared.split.Split.{Split}
use Rattle.mutator_rules.specs.Meaning.{TransitionMeaning}

module _ {P : Type 0} where
  -- What a rule answers at a node that it leaves as it is.
  abbrev pub left_alone : Node P → Split P
  left_alone x = record { variants = (Empty, x.payload) ∷ []; requests = [] }

  -- A rule leaves every node as it is, whatever the results of its edges' targets are.
  abbrev pub LeavesAll : (List (Node P) → ℕ → List (Split P) → Result (Split P) Fault) → List (Node P) → Type 0
  LeavesAll mean nodes =
      (n : ℕ) (ins : List (Split P)) (x : Node P) → slice_get nodes n ≡ Some x → mean nodes n ins ≡ Ok (left_alone x)

  -- What a rule makes of each node out of payloads of nodes is the payload that the node has.
  abbrev pub KeepsPayloads : (ℕ → List P → Result P Fault) → List (Node P) → Type 0
  KeepsPayloads mean nodes =
      (n : ℕ) (ins : List P) (x : Node P) → slice_get nodes n ≡ Some x
      → AllByRecursion (Contains (map (λ (y : Node P). y.payload) nodes)) ins → mean n ins ≡ Ok x.payload

  -- A transition rule wants nothing of any node but the variation that is empty: a node has no other by itself, and
  -- where a node has no other, none is wanted of what it depends on.
  pub record WantsNothing (m : TransitionMeaning P) (nodes : List (Node P)) : Type 0 where
    pub own : (n : ℕ) → n < length nodes → m.split nodes n ≡ Ok (Empty ∷ [])
    pub handed : (n from : ℕ) (kind : EdgeKind) → n < length nodes
        → m.incoming nodes n (m.outgoing nodes from kind Empty) ≡ Empty
