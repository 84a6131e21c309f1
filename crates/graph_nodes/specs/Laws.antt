-- What holds of all nodes, variations, names of variants and numbered items.
use Rattle.std.specs.Prelude.{◌≡◌, ◌↔◌, ◌++◌, ℕ, true, List, [], ◌∷◌, map, length, slice_get, Some, IsTrue}
use Rattle.std.specs.List.{AllByRecursion}
use Rattle.graph_nodes.specs.declared.graph.Edge.{Edge}
use Rattle.graph_nodes.specs.declared.graph.Node.{Node}
use Rattle.graph_nodes.specs.declared.variation.Variation.{Variation}
use Rattle.graph_nodes.specs.Names.{variant_name_of, is_label_byte}
use Rattle.graph_nodes.specs.Nodes.{edges_at, targets}
use Rattle.graph_nodes.specs.Numbered.{by_number}
use Rattle.graph_nodes.specs.Same.{same}

-- The name of a variant has no character but the letters a to z, the digits and `_`.
abbrev pub VariantNamesArePlain : Type 0
VariantNamesArePlain =
    (variations : List Variation) → AllByRecursion (λ c. is_label_byte c ≡ true) (variant_name_of variations)

-- The test of two variations tells whether they are equal.
abbrev pub SameMeansEqual : Type 0
SameMeansEqual = (v w : Variation) → IsTrue (same v w) ↔ v ≡ w

-- One item more, at the end, makes one piece more, at the end.
abbrev pub OneMoreItem : Type 0 → Type 0 → Type 0
OneMoreItem X A =
    (f : ℕ → X → List A) (xs : List X) (x : X) → by_number f 0 (xs ++ x ∷ []) ≡ by_number f 0 xs ++ f (length xs) x

module _ (P : Type 0) where
  -- The edges at a node's number, and their targets, are those of the node.
  abbrev pub EdgesStandAtTheirNode : Type 0
  EdgesStandAtTheirNode =
      (nodes : List (Node P)) (n : ℕ) (x : Node P) → slice_get nodes n ≡ Some x
      → (edges_at nodes n ≡ x.edges) × (targets nodes n ≡ map (λ (e : Edge). e.to.0) x.edges)
