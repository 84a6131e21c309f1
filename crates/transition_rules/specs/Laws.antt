-- What holds of every transition.
use Rattle.std.specs.Prelude.{◌≡◌, ◌<◌, ℕ, List, [], ◌++◌, length, slice_index_or, map, Some, None, Ok}
use Rattle.std.specs.Prelude.{◌↔◌, false, true, Contains}
use Rattle.std.specs.List.{AllByRecursion, AllPairs}
use Rattle.graph_nodes.specs.Names.{spelling}
use Rattle.transition_rules.specs.Spelled.{is_spelled_before, FitsNumber}
use Rattle.graph_nodes.specs.declared.graph.Node.{Node}
use Rattle.graph_nodes.specs.declared.variation.Variation.{Variation}
use Rattle.module_graph.specs.Graphs.{IsNumbered, IsValid}
use Rattle.mutator_rules.specs.Arrivals.{arrivals}
use Rattle.mutator_rules.specs.Meaning.{TransitionMeaning}
use Rattle.variant_graphs.specs.Splits.{IsSplitting}
use Rattle.variant_graphs.specs.Laws.{IsKept}
use Rattle.variant_graphs.specs.Splitting.{splitting, HasFreeAxis}
use Rattle.transition_rules.specs.Wants.{others_of, wanted_variations}
use Rattle.mutator_rules.specs.Conditions.{MayRun, indices_in}
use Rattle.mutator_rules.specs.Outcomes.{KindOutcome, Made}
use Rattle.transition_rules.specs.Passes.{WantsMeans, wanted_variants, MutateMeans, SplitsDiffer, TransitionMeans}
use Rattle.transition_rules.specs.Passes.{WantsMean}

module _ (P : Type 0) where
  -- The variations of a node are its own, and then those that are wanted along the edges that lead to it by the
  -- variants of their sources.
  abbrev pub WantsMeetTheirEquation : Type 0
  WantsMeetTheirEquation =
      (m : TransitionMeaning P) (nodes : List (Node P)) (lists : List (List Variation)) (n : ℕ) → IsNumbered nodes
      → IsValid nodes → WantsMeans m nodes (Ok lists) → n < length nodes
      → (own : List Variation) × (m.split nodes n ≡ Ok own)
      × (slice_index_or lists n [] ≡ own ++ others_of own
      (wanted_variations m nodes n (arrivals nodes n) (map (λ a. slice_index_or lists a.0.0 []) (arrivals nodes n))))

  -- So the variants of the nodes differ, and each edge of each variant leads to a variant that its target has: none
  -- is dropped.
  abbrev pub WantsSplit : Type 0
  WantsSplit =
      (m : TransitionMeaning P) (nodes : List (Node P)) (lists : List (List Variation)) → IsNumbered nodes
      → IsValid nodes → SplitsDiffer m nodes → WantsMeans m nodes (Ok lists)
      → IsSplitting (splitting (wanted_variants m nodes) lists) nodes

module _ (P : Type 0) where
  -- The first step of a transition comes to at most one thing.
  abbrev pub OneWantsOutcome : Type 0
  OneWantsOutcome =
      (m : TransitionMeaning P) (nodes : List (Node P)) (x y : KindOutcome (List (Node P))) → WantsMean m nodes x
      → WantsMean m nodes y → x ≡ y

  -- So does the second.
  abbrev pub OneMutateOutcome : Type 0
  OneMutateOutcome =
      (m : TransitionMeaning P) (nodes : List (Node P)) (x y : KindOutcome (List (Node P))) → MutateMeans m nodes x
      → MutateMeans m nodes y → x ≡ y

  -- A transition rule makes at most one thing of a graph.
  abbrev pub OneTransition : Type 0
  OneTransition =
      (m : TransitionMeaning P) (nodes : List (Node P)) (x y : KindOutcome (List (Node P))) → TransitionMeans m nodes x
      → TransitionMeans m nodes y → x ≡ y

module _ (P : Type 0) where
  -- The first step of a transition comes to something for every valid graph.
  abbrev pub SomeWantsOutcome : Type 0
  SomeWantsOutcome =
      (m : TransitionMeaning P) (nodes : List (Node P)) → IsNumbered nodes → IsValid nodes
      → (outcome : KindOutcome (List (Node P))) × WantsMean m nodes outcome

  -- So does the second.
  abbrev pub SomeMutateOutcome : Type 0
  SomeMutateOutcome =
      (m : TransitionMeaning P) (nodes : List (Node P)) → IsNumbered nodes → IsValid nodes
      → (outcome : KindOutcome (List (Node P))) × MutateMeans m nodes outcome

  -- The graph of the variants is fit for the next rule.
  abbrev pub WantsKeep : Type 0
  WantsKeep =
      (m : TransitionMeaning P) (nodes new : List (Node P)) (count : ℕ) → IsValid nodes
      → MayRun (indices_in count) nodes → HasFreeAxis m.axis nodes → SplitsDiffer m nodes → WantsMean m nodes (Made new)
      → IsKept count (Some m.axis) nodes new

  -- So is the graph with the new payloads.
  abbrev pub MutateKeeps : Type 0
  MutateKeeps =
      (m : TransitionMeaning P) (nodes new : List (Node P)) (count : ℕ) → IsValid nodes
      → MayRun (indices_in count) nodes → MutateMeans m nodes (Made new) → IsKept count None nodes new

-- The other variations of a node stand by their spelling: none is spelled before an earlier one.
abbrev pub OthersStandBySpelling : Type 0
OthersStandBySpelling = (own ws : List Variation) → AllPairs (λ v w. is_spelled_before w v ≡ false) (others_of own ws)

-- The other variations of a node are exactly those that are wanted and that it doesn't have by itself.
abbrev pub OthersAreThoseWanted : Type 0
OthersAreThoseWanted =
    (own ws : List Variation) (v : Variation)
    → Contains (others_of own ws) v ↔ (Contains ws v × (Contains own v → ⊥))

-- Two variations that are spelled alike are equal.
abbrev pub SpellingsDiffer : Type 0
SpellingsDiffer = (v w : Variation) → FitsNumber v → FitsNumber w → spelling v ≡ spelling w → v ≡ w

-- So each of the other variations stands there once, and is spelled before the later ones.
abbrev pub OthersRise : Type 0
OthersRise =
    (own ws : List Variation) → AllByRecursion FitsNumber ws
    → AllPairs (λ v w. is_spelled_before v w ≡ true) (others_of own ws)
