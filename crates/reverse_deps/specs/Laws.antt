-- What holds of all requests.
use Rattle.std.specs.Prelude.{◌≡◌, ◌<◌, ◌≤◌, ℕ, List, [], Option, Some, None, Ok, length, map, slice_get}
use Rattle.std.specs.Prelude.{slice_index_or}
use Rattle.bp_faults.specs.declared.ids.NodeId.{NodeId}
use Rattle.bp_faults.specs.declared.limits.TheConstants.{MOST_EDGES}
use Rattle.bp_faults.specs.Phases.{HasOutcome, IsOnce}
use Rattle.bp_props.specs.declared.module.Module.{Module}
use Rattle.graph_nodes.specs.declared.graph.Node.{Node}
use Rattle.graph_nodes.specs.declared.variation.Variation.{Variation}
use Rattle.graph_nodes.specs.declared.variation.Variation.TheVariants.{Empty}
use Rattle.graph_nodes.specs.declared.variations.Axis.{Axis}
use Rattle.graph_nodes.specs.declared.variations.Axis.TheVariants.{Target, Image, Link}
use Rattle.graph_nodes.specs.Axes.{axis_index}
use Rattle.graph_nodes.specs.Nodes.{NameNodes, all_edges}
use Rattle.module_graph.specs.Graphs.{IsValid}
use Rattle.mutator_rules.specs.declared.request.Request.{Request}
use Rattle.mutator_rules.specs.declared.request.Wanted.{Wanted}
use Rattle.mutator_rules.specs.Conditions.{MayRun, indices_in}
use Rattle.reverse_deps.specs.Applied.{AskInside, ApplyMeans}
use Rattle.reverse_deps.specs.Linked.{without_edges}
use Rattle.reverse_deps.specs.Resolved.{node_for}

module _ {P : Type 0} where
  -- The variation of a node along an axis.
  abbrev pub along : Axis → Node P → Variation
  along axis x = slice_index_or x.vars (axis_index axis) Empty

  -- A node is of a module and has the wanted target, image and link.
  pub record IsFor (m : ℕ) (want : Wanted) (x : Node P) : Type 0 where
    pub of_module : x.«module».0 ≡ m
    pub target : want.target ≡ along Target x
    pub image : want.image ≡ along Image x
    pub link : want.link ≡ along Link x

  -- Node n is there, and is such a node.
  abbrev pub HasFor : List (Node P) → ℕ → Wanted → ℕ → Type 0
  HasFor nodes m want n = (x : Node P) × (slice_get nodes n ≡ Some x) × IsFor m want x

  -- The least such node, or none where there is none.
  abbrev pub IsLeastFor : List (Node P) → ℕ → Wanted → Option NodeId → Type 0
  IsLeastFor nodes m want None = (n : ℕ) → HasFor nodes m want n → ⊥
  IsLeastFor nodes m want (Some least) =
      HasFor nodes m want least.0 × ((n : ℕ) → n < least.0 → HasFor nodes m want n → ⊥)

-- A graph with more edges is fit for the next mutator: it is valid, its nodes are variants of so many modules, and they
-- are the same but for their edges.
pub record IsFitStill {P : Type 0} (count : ℕ) (old new : List (Node P)) : Type 0 where
  pub valid : IsValid new
  pub may : MayRun (indices_in count) new
  pub same : map without_edges new ≡ map without_edges old

module _ (P : Type 0) where
  -- The node that is found is the least of its module with the wanted variations, and none is found where there is
  -- none.
  abbrev pub NodesForAreLeast : Type 0
  NodesForAreLeast =
      (nodes : List (Node P)) (m : ℕ) (want : Wanted) → IsLeastFor nodes m want (node_for nodes m want)

  -- Requests make one thing of a graph, and no other.
  abbrev pub OneOutcome : Type 0
  OneOutcome =
      (mods : List Module) (nodes : List (Node P)) (asked : List (NodeId × Request))
      → IsOnce (ApplyMeans mods nodes asked)

  -- Whatever the nodes of a graph ask for makes something of it.
  abbrev pub SomeOutcome : Type 0
  SomeOutcome =
      (mods : List Module) (nodes : List (Node P)) (asked : List (NodeId × Request))
      → NameNodes nodes → AskInside (length nodes) asked → HasOutcome (ApplyMeans mods nodes asked)

  -- The graph that it makes of a valid one is fit for the next mutator.
  abbrev pub AppliedKeeps : Type 0
  AppliedKeeps =
      (mods : List Module) (nodes : List (Node P)) (asked : List (NodeId × Request)) (new : List (Node P))
      → IsValid nodes → MayRun (indices_in (length mods)) nodes → AskInside (length nodes) asked
      → ApplyMeans mods nodes asked (Ok new) → IsFitStill (length mods) nodes new

  -- Where nothing is asked, a valid graph within the limit on edges stays as it is.
  abbrev pub NothingAskedKeeps : Type 0
  NothingAskedKeeps =
      (mods : List Module) (nodes : List (Node P)) → IsValid nodes → length (all_edges nodes) ≤ MOST_EDGES
      → ApplyMeans mods nodes [] (Ok nodes)
