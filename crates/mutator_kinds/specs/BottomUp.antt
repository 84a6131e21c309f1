-- What a rule from the bottom up makes of a graph.
use Rattle.std.specs.Prelude.{◌≡◌, ◌≢◌, ◌<◌, ℕ, List, [], ◌∷◌, map, length, Option, Some, None, Result, Ok, Err, ⊤}
use Rattle.std.specs.Prelude.{unwrap_or}
use Rattle.std.specs.List.{AllPairs, position}
use Rattle.bp_faults.specs.declared.fault.Fault.{Fault}
use Rattle.bp_faults.specs.declared.ids.NodeId.{NodeId}
use Rattle.serial_pass.specs.Outcomes.{PassOutcomeMeans}
use Rattle.graph_nodes.specs.declared.graph.Node.{Node}
use Rattle.graph_nodes.specs.declared.variation.Variation.{Variation}
use Rattle.graph_nodes.specs.declared.variations.Axis.{Axis}
use Rattle.graph_nodes.specs.Numbered.{by_number}
use Rattle.graph_nodes.specs.Same.{same}
use Rattle.module_graph.specs.declared.direction.Direction.TheVariants.{BottomUp}
use Rattle.module_graph.specs.Planned.{plan_of}
use Rattle.mutator_rules.specs.declared.request.Request.{Request}
use Rattle.mutator_rules.specs.declared.split.Split.{Split}
use Rattle.mutator_rules.specs.Outcomes.{KindOutcome, Made, FaultAt, NodesBeyond, EdgesBeyond}
use Rattle.variant_graphs.specs.Limits.{IsWithinLimits, IsFirstNodeBeyond, IsFirstEdgeBeyond}
use Rattle.variant_graphs.specs.Payloads.{with_payloads}
use Rattle.variant_graphs.specs.Splitting.{SplitRule, splitting, split_nodes, HasFreeAxis}

-- The index of the same variation, else the first, if there is one.
abbrev pub chosen : Variation → List Variation → Option ℕ
chosen v [] = None
chosen v (w ∷ ws) = Some (unwrap_or (position (same v) (w ∷ ws)) 0)

module _ {P : Type 0} where
  -- The variants of the nodes have the variations and payloads that results name. An edge leads to the variant of the
  -- same variation, else to the first.
  abbrev pub rule_along : Axis → SplitRule P (Variation × P)
  rule_along axis = record {
    axis = axis;
    variation = λ b. b.0;
    payload = λ x b. b.1;
    lead = λ n v e theirs. chosen v theirs;
  }

  -- The variants of each result.
  abbrev pub variants_of : List (Split P) → List (List (Variation × P))
  variants_of outs = map (λ (made : Split P). made.variants) outs

  -- The payload of the first variant; the old one where there is no variant.
  abbrev pub first_payload : P → List (Variation × P) → P
  first_payload old [] = old
  first_payload old (b ∷ bs) = b.1

  -- The payloads that results without an axis give to the nodes.
  abbrev pub first_payloads : List (Node P) → List (Split P) → List P
  first_payloads [] outs = []
  first_payloads (x ∷ xs) [] = []
  first_payloads (x ∷ xs) (made ∷ outs) = first_payload x.payload made.variants ∷ first_payloads xs outs

  -- What the nodes ask for, by node and then in the order of each list.
  abbrev pub asked_of : List (Split P) → List (NodeId × Request)
  asked_of outs = by_number (λ n (made : Split P). map (λ r. (record { 0 = n }, r)) made.requests) 0 outs

  -- The nodes that results make of a graph's. Without an axis each gets the payload of its result. With an axis each
  -- is replaced by the variants of its result.
  abbrev pub new_nodes : Option Axis → List (Node P) → List (Split P) → List (Node P)
  new_nodes None nodes outs = with_payloads nodes (first_payloads nodes outs)
  new_nodes (Some axis) nodes outs = split_nodes (splitting (rule_along axis) (variants_of outs)) nodes

  -- The new graph, within the limits, and what its nodes ask for; or what is first beyond the limits.
  abbrev pub ResultsMean : Option Axis → List (Node P) → List (Split P)
      → KindOutcome (List (Node P) × List (NodeId × Request)) → Type 0
  ResultsMean along nodes outs (Made new) = IsWithinLimits (new_nodes along nodes outs)
      × (new.0 ≡ new_nodes along nodes outs) × (new.1 ≡ asked_of outs)
  ResultsMean along nodes outs (FaultAt n fault) = ⊥
  ResultsMean along nodes outs (NodesBeyond m) = IsFirstNodeBeyond (new_nodes along nodes outs) m
  ResultsMean along nodes outs (EdgesBeyond p) = IsFirstEdgeBeyond (new_nodes along nodes outs) p

module _ {P : Type 0} (mean : List (Node P) → ℕ → List (Split P) → Result (Split P) Fault) (nodes : List (Node P)) where
  -- The results of the nodes, or a node has a fault.
  abbrev pub VisitsMeans : Result (List (Split P)) (ℕ × Fault) → Type 0
  VisitsMeans = PassOutcomeMeans (mean nodes) (plan_of BottomUp nodes)

  -- What all results make of the graph, or the fault of a node.
  abbrev pub BottomUpMeans : Option Axis → KindOutcome (List (Node P) × List (NodeId × Request)) → Type 0
  BottomUpMeans along (Made new) =
      (outs : List (Split P)) × VisitsMeans (Ok outs) × ResultsMean along nodes outs (Made new)
  BottomUpMeans along (FaultAt n fault) = VisitsMeans (Err (n, fault))
  BottomUpMeans along (NodesBeyond m) =
      (outs : List (Split P)) × VisitsMeans (Ok outs) × ResultsMean along nodes outs (NodesBeyond m)
  BottomUpMeans along (EdgesBeyond p) =
      (outs : List (Split P)) × VisitsMeans (Ok outs) × ResultsMean along nodes outs (EdgesBeyond p)

  -- The variations of one result differ.
  abbrev pub ResultsDiffer : Type 0
  ResultsDiffer =
      (n : ℕ) (ins : List (Split P)) (made : Split P) → n < length nodes → mean nodes n ins ≡ Ok made
      → AllPairs (λ (b c : Variation × P). b.0 ≢ c.0) made.variants

  -- They do where the rule splits.
  abbrev pub DifferFor : Option Axis → Type 0
  DifferFor None = ⊤
  DifferFor (Some axis) = ResultsDiffer

-- No node has a variation on the axis yet, where there is one.
abbrev pub IsFreeFor : {P : Type 0} → Option Axis → List (Node P) → Type 0
IsFreeFor None nodes = ⊤
IsFreeFor (Some axis) nodes = HasFreeAxis axis nodes
