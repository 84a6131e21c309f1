-- What holds of both kinds, whatever the rule is.
use Rattle.std.specs.Prelude.{◌≡◌, ℕ, List, Option, None, Result}
use Rattle.bp_faults.specs.declared.fault.Fault.{Fault}
use Rattle.bp_faults.specs.declared.ids.NodeId.{NodeId}
use Rattle.graph_nodes.specs.declared.graph.EdgeKind.{EdgeKind}
use Rattle.graph_nodes.specs.declared.graph.Node.{Node}
use Rattle.graph_nodes.specs.declared.variations.Axis.{Axis}
use Rattle.module_graph.specs.Graphs.{IsNumbered, IsValid}
use Rattle.mutator_rules.specs.declared.request.Request.{Request}
use Rattle.mutator_rules.specs.declared.split.Split.{Split}
use Rattle.mutator_rules.specs.Conditions.{MayRun, indices_in}
use Rattle.mutator_rules.specs.Outcomes.{KindOutcome, Made}
use Rattle.variant_graphs.specs.Laws.{IsKept}
use Rattle.mutator_kinds.specs.BottomUp.{BottomUpMeans, DifferFor, IsFreeFor}
use Rattle.mutator_kinds.specs.TopDown.{TopDownMeans}

module _ (P : Type 0) where
  -- A rule from the top down makes one thing of a graph, and no other.
  abbrev pub OneTopDownOutcome : Type 0
  OneTopDownOutcome =
      (mean : List (Node P) → ℕ → List EdgeKind → List P → Result P Fault) (nodes : List (Node P))
      (outcome other : KindOutcome (List (Node P)))
      → TopDownMeans mean nodes outcome → TopDownMeans mean nodes other → outcome ≡ other

  -- So does a rule from the bottom up.
  abbrev pub OneBottomUpOutcome : Type 0
  OneBottomUpOutcome =
      (mean : List (Node P) → ℕ → List (Split P) → Result (Split P) Fault) (nodes : List (Node P)) (along : Option Axis)
      (outcome other : KindOutcome (List (Node P) × List (NodeId × Request)))
      → BottomUpMeans mean nodes along outcome → BottomUpMeans mean nodes along other → outcome ≡ other

  -- A rule from the top down makes something of every valid graph.
  abbrev pub SomeTopDownOutcome : Type 0
  SomeTopDownOutcome =
      (mean : List (Node P) → ℕ → List EdgeKind → List P → Result P Fault) (nodes : List (Node P))
      → IsNumbered nodes → IsValid nodes → (outcome : KindOutcome (List (Node P))) × TopDownMeans mean nodes outcome

  -- So does a rule from the bottom up.
  abbrev pub SomeBottomUpOutcome : Type 0
  SomeBottomUpOutcome =
      (mean : List (Node P) → ℕ → List (Split P) → Result (Split P) Fault) (nodes : List (Node P)) (along : Option Axis)
      → IsNumbered nodes → IsValid nodes
      → (outcome : KindOutcome (List (Node P) × List (NodeId × Request))) × BottomUpMeans mean nodes along outcome

  -- The graph that a rule from the top down makes is fit for the next rule.
  abbrev pub TopDownKeeps : Type 0
  TopDownKeeps =
      (mean : List (Node P) → ℕ → List EdgeKind → List P → Result P Fault) (nodes new : List (Node P)) (count : ℕ)
      → IsValid nodes → MayRun (indices_in count) nodes → TopDownMeans mean nodes (Made new)
      → IsKept count None nodes new

  -- So is the graph that a rule from the bottom up makes.
  abbrev pub BottomUpKeeps : Type 0
  BottomUpKeeps =
      (mean : List (Node P) → ℕ → List (Split P) → Result (Split P) Fault) (nodes : List (Node P)) (along : Option Axis)
      (new : List (Node P) × List (NodeId × Request)) (count : ℕ)
      → IsValid nodes → MayRun (indices_in count) nodes → IsFreeFor along nodes → DifferFor mean nodes along
      → BottomUpMeans mean nodes along (Made new) → IsKept count along nodes new.0
