-- What holds of every split, of every graph with new payloads, of passes that make what is there, and of the limits.
use Rattle.std.specs.Prelude.{◌≡◌, ◌≢◌, ◌<◌, ◌⊎◌, ℕ, List, [], ◌∷◌, Contains, Option, Some, length, map, slice_get}
use Rattle.std.specs.Prelude.{Result, Ok}
use Rattle.std.specs.List.{AllByRecursion}
use Rattle.bp_faults.specs.declared.fault.Fault.{Fault}
use Rattle.bp_faults.specs.declared.ids.ModuleId.{ModuleId}
use Rattle.bp_faults.specs.declared.place.Place.{Place}
use Rattle.serial_pass.specs.Outcomes.{PassOutcomeMeans}
use Rattle.graph_nodes.specs.declared.graph.Edge.{Edge}
use Rattle.graph_nodes.specs.declared.graph.Node.{Node}
use Rattle.graph_nodes.specs.declared.variation.Variation.TheVariants.{Empty}
use Rattle.graph_nodes.specs.declared.variations.Axis.{Axis}
use Rattle.graph_nodes.specs.Nodes.{NameNodes}
use Rattle.module_graph.specs.declared.direction.Direction.{Direction}
use Rattle.module_graph.specs.Graphs.{IsNumbered, IsValid}
use Rattle.module_graph.specs.Planned.{plan_of}
use Rattle.mutator_rules.specs.Conditions.{MayRun, indices_in}
use Rattle.variant_graphs.specs.Limits.{IsWithinLimits, IsFirstNodeBeyond, IsFirstEdgeBeyond}
use Rattle.variant_graphs.specs.Payloads.{with_payloads}
use Rattle.variant_graphs.specs.Splits.{IsSplitting}
use Rattle.variant_graphs.specs.Splitting.{Splitting, split_nodes, variants_at, HasFreeAxis, StayFree}

-- A graph whose nodes and edges are numbered, and whose nodes are of modules of old nodes: a rule that may be run over
-- the old nodes may be run over it.
pub record HasModulesOf {P : Type 0} (old new : List (Node P)) : Type 0 where
  pub numbered : IsNumbered new
  pub modules : AllByRecursion (λ (x : Node P). Contains (map (λ (y : Node P). y.«module») old) x.«module») new

-- A new graph is fit for the next mutator as the old one was: it is valid, its nodes are variants of so many modules,
-- and the axes that were free are free, but for that along which the old one is split, if it is.
pub record IsKept {P : Type 0} (count : ℕ) (along : Option Axis) (old new : List (Node P)) : Type 0 where
  pub valid : IsValid new
  pub may : MayRun (indices_in count) new
  pub free : StayFree along old new

module _ (P B : Type 0) where
  -- The graph after a split is valid, where the old graph was and had no variation on the axis.
  abbrev pub SplitsStayValid : Type 0
  SplitsStayValid =
      (s : Splitting P B) (nodes : List (Node P)) → IsValid nodes → HasFreeAxis s.axis nodes → IsSplitting s nodes
      → IsValid (split_nodes s nodes)

  -- The graph after a split within the limits is numbered, and its nodes are of the modules of the old nodes.
  abbrev pub SplitsKeepModules : Type 0
  SplitsKeepModules =
      (s : Splitting P B) (nodes : List (Node P)) → IsNumbered nodes → IsSplitting s nodes
      → IsWithinLimits (split_nodes s nodes) → HasModulesOf nodes (split_nodes s nodes)

  -- A split along one axis leaves another axis as free as it was.
  abbrev pub OtherAxesStayFree : Type 0
  OtherAxesStayFree =
      (s : Splitting P B) (nodes : List (Node P)) (axis : Axis) → axis ≢ s.axis → HasFreeAxis axis nodes
      → HasFreeAxis axis (split_nodes s nodes)

  -- A split in which each node has one variant, with the variation that is empty and the node's own payload, keeps the
  -- graph, where each edge leads to the one variant of its target.
  abbrev pub SplitsOfOneKeep : Type 0
  SplitsOfOneKeep =
      (s : Splitting P B) (nodes : List (Node P)) → NameNodes nodes → HasFreeAxis s.axis nodes
      → length s.variants ≡ length nodes
      → ((n : ℕ) (x : Node P) → slice_get nodes n ≡ Some x
      → (b : B) × (variants_at s n ≡ b ∷ []) × (s.variation b ≡ Empty) × (s.payload x b ≡ x.payload))
      → ((n : ℕ) (e : Edge) → n < length nodes → e.to.0 < length nodes → s.lead n Empty e ≡ Some 0)
      → split_nodes s nodes ≡ nodes

module _ (P O : Type 0) where
  -- Where each node's meaning, over what some nodes have, is what the node itself has, a pass makes that of each node.
  abbrev pub IdlePassesMake : Type 0
  IdlePassesMake =
      (dir : Direction) (nodes : List (Node P)) (mean : ℕ → List O → Result O Fault) (own : Node P → O)
      → IsNumbered nodes → IsValid nodes
      → ((n : ℕ) (ins : List O) (x : Node P) → slice_get nodes n ≡ Some x
      → AllByRecursion (Contains (map own nodes)) ins → mean n ins ≡ Ok (own x))
      → PassOutcomeMeans mean (plan_of dir nodes) (Ok (map own nodes))

module _ (P : Type 0) where
  -- New payloads change neither the number of nodes nor the plans of a graph.
  abbrev pub NewPayloadsKeepPlans : Type 0
  NewPayloadsKeepPlans =
      (nodes : List (Node P)) (payloads : List P) (dir : Direction)
      → (length (with_payloads nodes payloads) ≡ length nodes)
      × (plan_of dir (with_payloads nodes payloads) ≡ plan_of dir nodes)

  -- With new payloads a valid graph is valid.
  abbrev pub NewPayloadsStayValid : Type 0
  NewPayloadsStayValid =
      (nodes : List (Node P)) (payloads : List P) → IsValid nodes → IsValid (with_payloads nodes payloads)

  -- With new payloads a graph is numbered as before, and its nodes are of the same modules.
  abbrev pub NewPayloadsKeepModules : Type 0
  NewPayloadsKeepModules =
      (nodes : List (Node P)) (payloads : List P) → IsNumbered nodes → HasModulesOf nodes (with_payloads nodes payloads)

  -- New payloads leave a free axis free.
  abbrev pub NewPayloadsLeaveAxesFree : Type 0
  NewPayloadsLeaveAxesFree =
      (nodes : List (Node P)) (payloads : List P) (axis : Axis) → HasFreeAxis axis nodes
      → HasFreeAxis axis (with_payloads nodes payloads)

  -- A graph is within the limits, or a node or an edge of it is the first beyond.
  abbrev pub LimitsTell : Type 0
  LimitsTell =
      (nodes : List (Node P))
      → IsWithinLimits nodes
      ⊎ (((m : ModuleId) × IsFirstNodeBeyond nodes m) ⊎ ((p : Place) × IsFirstEdgeBeyond nodes p))
