-- What a transition rule makes of a graph.
use Rattle.std.specs.Prelude.{◌≡◌, ◌≢◌, ◌<◌, ℕ, List, length, Result, Ok, Err}
use Rattle.std.specs.List.{AllPairs, position}
use Rattle.bp_faults.specs.declared.fault.Fault.{Fault}
use Rattle.serial_pass.specs.Outcomes.{PassOutcomeMeans}
use Rattle.graph_nodes.specs.declared.graph.Node.{Node}
use Rattle.graph_nodes.specs.declared.variation.Variation.{Variation}
use Rattle.graph_nodes.specs.Same.{same}
use Rattle.module_graph.specs.declared.direction.Direction.TheVariants.{BottomUp, TopDown}
use Rattle.module_graph.specs.Planned.{plan_of}
use Rattle.mutator_rules.specs.Meaning.{TransitionMeaning}
use Rattle.mutator_rules.specs.Outcomes.{KindOutcome, Made, FaultAt, NodesBeyond, EdgesBeyond}
use Rattle.variant_graphs.specs.Limits.{IsWithinLimits, IsFirstNodeBeyond, IsFirstEdgeBeyond}
use Rattle.variant_graphs.specs.Payloads.{with_payloads}
use Rattle.variant_graphs.specs.Splitting.{SplitRule, splitting, split_nodes}
use Rattle.transition_rules.specs.Wants.{variations_meant}

module _ {P : Type 0} (m : TransitionMeaning P) (nodes : List (Node P)) where
  -- What the first pass, from the top down, comes to: the variations of each node, or a node's fault.
  abbrev pub WantsMeans : Result (List (List Variation)) (ℕ × Fault) → Type 0
  WantsMeans = PassOutcomeMeans (variations_meant m nodes) (plan_of TopDown nodes)

  -- How variants are made: each has its node's payload, and its edge to t leads to the variant of t that is wanted
  -- along it.
  abbrev pub wanted_variants : SplitRule P Variation
  wanted_variants = record {
    axis = m.axis;
    variation = λ v. v;
    payload = λ x v. x.payload;
    lead = λ n v e theirs. position (same (m.incoming nodes e.to.0 (m.outgoing nodes n e.kind v))) theirs;
  }

  -- The graph of the variants, by the variations of each node.
  abbrev pub varied_graph : List (List Variation) → List (Node P)
  varied_graph lists = split_nodes (splitting wanted_variants lists) nodes

  -- The first step: the variations of each node, and the graph of the variants within its limits.
  abbrev pub WantsMean : KindOutcome (List (Node P)) → Type 0
  WantsMean (Made new) =
      (lists : List (List Variation)) × WantsMeans (Ok lists) × IsWithinLimits (varied_graph lists)
      × (new ≡ varied_graph lists)
  WantsMean (FaultAt n fault) = WantsMeans (Err (n, fault))
  WantsMean (NodesBeyond at) =
      (lists : List (List Variation)) × WantsMeans (Ok lists) × IsFirstNodeBeyond (varied_graph lists) at
  WantsMean (EdgesBeyond at) =
      (lists : List (List Variation)) × WantsMeans (Ok lists) × IsFirstEdgeBeyond (varied_graph lists) at

  -- What the second pass, from the bottom up, comes to: the payload of each node, or a node's fault.
  abbrev pub MutatedMeans : Result (List P) (ℕ × Fault) → Type 0
  MutatedMeans = PassOutcomeMeans (m.mutate nodes) (plan_of BottomUp nodes)

  -- The second step: each node of a graph with its new payload. The graph is as large as before.
  abbrev pub MutateMeans : KindOutcome (List (Node P)) → Type 0
  MutateMeans (Made new) = (outs : List P) × MutatedMeans (Ok outs) × (new ≡ with_payloads nodes outs)
  MutateMeans (FaultAt n fault) = MutatedMeans (Err (n, fault))
  MutateMeans (NodesBeyond at) = ⊥
  MutateMeans (EdgesBeyond at) = ⊥

  -- The variations that a node has by itself differ.
  abbrev pub SplitsDiffer : Type 0
  SplitsDiffer =
      (n : ℕ) (own : List Variation) → n < length nodes → m.split nodes n ≡ Ok own → AllPairs (λ v w. v ≢ w) own

-- A new graph goes on to the next step, and what else comes is the outcome.
abbrev pub StepsOn : {G H : Type 0} → KindOutcome G → (G → KindOutcome H → Type 0) → KindOutcome H → Type 0
StepsOn (Made new) Next outcome = Next new outcome
StepsOn (FaultAt n fault) Next outcome = outcome ≡ FaultAt n fault
StepsOn (NodesBeyond at) Next outcome = outcome ≡ NodesBeyond at
StepsOn (EdgesBeyond at) Next outcome = outcome ≡ EdgesBeyond at

-- The first step, and then the second over the graph of the variants: what comes first stands.
abbrev pub TransitionMeans : {P : Type 0} → TransitionMeaning P → List (Node P) → KindOutcome (List (Node P)) → Type 0
TransitionMeans {P} m nodes outcome =
    (first : KindOutcome (List (Node P))) × WantsMean m nodes first × StepsOn first (MutateMeans m) outcome
