-- What the result of a rule from the bottom up looks like.
use Rattle.std.specs.Prelude.{◌≡◌, ℕ, List, [], ◌∷◌, Option, Some, None, Result, Ok}
use Rattle.bp_faults.specs.declared.fault.Fault.{Fault}
use Rattle.graph_nodes.specs.declared.graph.Node.{Node}
use Rattle.graph_nodes.specs.declared.variation.Variation.{Variation}
use Rattle.graph_nodes.specs.declared.variation.Variation.TheVariants.{Empty}
use Rattle.graph_nodes.specs.declared.variations.Axis.{Axis}
use Rattle.mutator_rules.specs.declared.split.Split.{Split}

module _ {P : Type 0} where
  -- Exactly one variant, of the empty variation.
  abbrev pub IsOne : List (Variation × P) → Type 0
  IsOne [] = ⊥
  IsOne (variant ∷ []) = variant.0 ≡ Empty
  IsOne (variant ∷ other ∷ rest) = ⊥

  -- Without an axis a result has one variant. With an axis it asks nothing.
  abbrev pub HasShape : Option Axis → Split P → Type 0
  HasShape None made = IsOne made.variants
  HasShape (Some axis) made = made.requests ≡ []

  -- Each result of a rule has its shape.
  abbrev pub AreShaped : Option Axis → (List (Node P) → ℕ → List (Split P) → Result (Split P) Fault) → Type 0
  AreShaped along meaning =
      (nodes : List (Node P)) (n : ℕ) (ins : List (Split P)) (made : Split P)
      → meaning nodes n ins ≡ Ok made → HasShape along made
