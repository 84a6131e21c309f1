-- The graph with the edges that its nodes ask for.
use Rattle.std.specs.Prelude.{◌≡◌, ◌<◌, ℕ, List, [], map, Result, Ok, Err, codes, slice_get}
use Rattle.std.specs.Option.{option_map_or}
use Rattle.std.specs.List.{AllByRecursion}
use Rattle.bp_faults.specs.declared.fault.Fault.{Fault}
use Rattle.bp_faults.specs.declared.ids.NodeId.{NodeId}
use Rattle.bp_faults.specs.declared.kind.FaultKind.TheVariants.{TooMany}
use Rattle.bp_faults.specs.declared.limits.TheConstants.{MOST_EDGES}
use Rattle.bp_faults.specs.Faults.{fault_on}
use Rattle.bp_faults.specs.Phases.{each_in_turn, GoesOn}
use Rattle.bp_props.specs.declared.module.Module.{Module}
use Rattle.graph_nodes.specs.declared.graph.Edge.{Edge}
use Rattle.graph_nodes.specs.declared.graph.Node.{Node}
use Rattle.graph_nodes.specs.Names.{label_of}
use Rattle.graph_nodes.specs.Nodes.{all_edges}
use Rattle.module_graph.specs.Cycles.{IsReported}
use Rattle.module_graph.specs.Graphs.{edges_of}
use Rattle.module_graph.specs.Walks.{NoneReturns}
use Rattle.mutator_rules.specs.declared.request.Request.{Request}
use Rattle.reverse_deps.specs.Linked.{links, linked_nodes}
use Rattle.reverse_deps.specs.Resolved.{resolved_node}

-- Each asking node is a node.
abbrev pub AskInside : ℕ → List (NodeId × Request) → Type 0
AskInside count asked = AllByRecursion (λ (a : NodeId × Request). a.0.0 < count) asked

-- The name of a module by its number, and the empty one beyond the list.
abbrev pub name_of : List Module → ℕ → List ℕ
name_of mods m = option_map_or (λ (it : Module). it.name) (slice_get mods m) []

module _ {P : Type 0} where
  -- The label of each node.
  abbrev pub labels_of : List Module → List (Node P) → List (List ℕ)
  labels_of mods nodes = map (λ (x : Node P). label_of (name_of mods x.«module».0) x.vars) nodes

-- The fault of the first edge beyond the limit.
abbrev pub too_many : Edge → Fault
too_many e = fault_on TooMany e.at (codes "edges")

-- A graph has at most 2^22 edges, or the first beyond, in node order, is the fault.
abbrev pub edges_counted : {P : Type 0} → List (Node P) → Result (Unit {0}) Fault
edges_counted nodes =
    option_map_or (λ (e : Edge). Err (too_many e)) (slice_get (all_edges nodes) MOST_EDGES) (Ok tt)

module _ {P : Type 0} (mods : List Module) where
  -- A graph is the outcome where no walk in it returns to its start, and else the cycle is reported.
  abbrev pub AcyclicMeans : List (Node P) → Unit {0} → Result (List (Node P)) Fault → Type 0
  AcyclicMeans new counted (Ok made) = (made ≡ new) × NoneReturns (edges_of new)
  AcyclicMeans new counted (Err fault) = IsReported new (labels_of mods new) fault

  -- First the edges are counted.
  abbrev pub CountedMeans : List (Node P) → Result (List (Node P)) Fault → Type 0
  CountedMeans new = GoesOn (edges_counted new) (AcyclicMeans new)

  -- The nodes that requests are for, or the fault of the first that isn't resolved in the graph as it is.
  abbrev pub found_for : List (Node P) → List (NodeId × Request) → Result (List NodeId) Fault
  found_for nodes asked = each_in_turn (λ (a : NodeId × Request). resolved_node mods nodes a.1) asked

  -- What requests make of a graph: all are resolved, then the edges are added and counted, and then no walk returns.
  abbrev pub ApplyMeans : List (Node P) → List (NodeId × Request) → Result (List (Node P)) Fault → Type 0
  ApplyMeans nodes asked =
      GoesOn (found_for nodes asked) (λ found. CountedMeans (linked_nodes nodes (links asked found)))
