-- The variations of a node: those that it has by itself, and those that its dependents want of it (Blueprint,
-- transition mutators).
use Rattle.std.specs.Prelude.{ℕ, List, [], ◌∷◌, ◌++◌, ◌||◌, map, Result, Ok, if◌then◌else◌}
use Rattle.std.specs.List.{fold, list_any}
use Rattle.bp_faults.specs.declared.fault.Fault.{Fault}
use Rattle.bp_faults.specs.declared.ids.NodeId.{NodeId}
use Rattle.bp_faults.specs.Answers.{then_do}
use Rattle.graph_nodes.specs.declared.graph.EdgeKind.{EdgeKind}
use Rattle.graph_nodes.specs.declared.graph.Node.{Node}
use Rattle.graph_nodes.specs.declared.variation.Variation.{Variation}
use Rattle.mutator_rules.specs.Arrivals.{arrivals}
use Rattle.mutator_rules.specs.Meaning.{TransitionMeaning}
use Rattle.graph_nodes.specs.Same.{same}
use Rattle.transition_rules.specs.Spelled.{list_with}

-- A wanted variation among the others: each stands there once, and none of the node's own.
abbrev pub wants_with : List Variation → List Variation → Variation → List Variation
wants_with own others w = if list_any (same w) own || list_any (same w) others then others else list_with w others

-- The wanted variations that aren't the node's own, each once, by spelling.
abbrev pub others_of : List Variation → List Variation → List Variation
others_of own wanted_variations = fold (wants_with own) [] wanted_variations

module _ {P : Type 0} (m : TransitionMeaning P) (nodes : List (Node P)) where
  -- What a variant of a node wants of node n along an edge.
  abbrev pub handed_variation : ℕ → NodeId × EdgeKind → Variation → Variation
  handed_variation n a v = m.incoming nodes n (m.outgoing nodes a.0.0 a.1 v)

  -- What is wanted of node n along the edges that lead to it, given the variations of their sources.
  abbrev pub wanted_variations : ℕ → List (NodeId × EdgeKind) → List (List Variation) → List Variation
  wanted_variations n [] lists = []
  wanted_variations n (a ∷ rest) [] = []
  wanted_variations n (a ∷ rest) (vs ∷ lists) = map (handed_variation n a) vs ++ wanted_variations n rest lists

  -- The variations of node n, given those of the nodes whose edges lead to it.
  abbrev pub variations_meant : ℕ → List (List Variation) → Result (List Variation) Fault
  variations_meant n lists =
      then_do (m.split nodes n) (λ own. Ok (own ++ others_of own (wanted_variations n (arrivals nodes n) lists)))
