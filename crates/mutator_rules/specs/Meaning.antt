-- What the calls of a transition rule answer, each as a function of its arguments.
use Rattle.std.specs.Prelude.{ℕ, List, Result}
use Rattle.bp_faults.specs.declared.fault.Fault.{Fault}
use Rattle.graph_nodes.specs.declared.graph.EdgeKind.{EdgeKind}
use Rattle.graph_nodes.specs.declared.graph.Node.{Node}
use Rattle.graph_nodes.specs.declared.variation.Variation.{Variation}
use Rattle.graph_nodes.specs.declared.variations.Axis.{Axis}

-- A transition rule splits along an axis.
pub record TransitionMeaning (P : Type 0) : Type 0 where
  pub axis : Axis
  -- the variations that a node has by itself
  pub split : List (Node P) → ℕ → Result (List Variation) Fault
  -- what a variant of a node hands to its edges of a kind
  pub outgoing : List (Node P) → ℕ → EdgeKind → Variation → Variation
  -- the variation of a node that an edge with a variation leads to
  pub incoming : List (Node P) → ℕ → Variation → Variation
  -- the payload of a node of the new graph, given those of its edges' targets
  pub mutate : List (Node P) → ℕ → List P → Result P Fault
