-- How large a graph may become.
use Rattle.std.specs.Prelude.{◌≡◌, ◌≤◌, List, length, Some, slice_get, Result, Ok, Err}
use Rattle.std.specs.Option.{option_map}
use Rattle.bp_faults.specs.declared.ids.ModuleId.{ModuleId}
use Rattle.bp_faults.specs.declared.limits.TheConstants.{MOST_EDGES, MOST_NODES}
use Rattle.bp_faults.specs.declared.place.Place.{Place}
use Rattle.graph_nodes.specs.declared.graph.Edge.{Edge}
use Rattle.graph_nodes.specs.declared.graph.Node.{Node}
use Rattle.graph_nodes.specs.Nodes.{all_edges}
use Rattle.mutator_rules.specs.declared.error.KindError.{KindError}
use Rattle.mutator_rules.specs.declared.error.KindError.TheVariants.{At, Nodes, Edges, OutOfMemory}

module _ {P : Type 0} where
  -- A graph is within the limits.
  pub record IsWithinLimits (nodes : List (Node P)) : Type 0 where
    pub few_nodes : length nodes ≤ MOST_NODES
    pub few_edges : length (all_edges nodes) ≤ MOST_EDGES

  -- A graph has too many nodes, and m is the module of the first beyond.
  abbrev pub IsFirstNodeBeyond : List (Node P) → ModuleId → Type 0
  IsFirstNodeBeyond nodes m = option_map (λ (x : Node P). x.«module») (slice_get nodes MOST_NODES) ≡ Some m

  -- It has few enough nodes but too many edges, and p is the place of the first beyond, in node order.
  pub record IsFirstEdgeBeyond (nodes : List (Node P)) (p : Place) : Type 0 where
    pub few_nodes : length nodes ≤ MOST_NODES
    pub beyond : option_map (λ (e : Edge). e.at) (slice_get (all_edges nodes) MOST_EDGES) ≡ Some p

  -- A graph is within the limits, or what is first beyond them.
  abbrev pub AnswersLimits : List (Node P) → Result Unit KindError → Type 0
  AnswersLimits nodes (Ok done) = IsWithinLimits nodes
  AnswersLimits nodes (Err (At n fault)) = ⊥
  AnswersLimits nodes (Err (Nodes m)) = IsFirstNodeBeyond nodes m
  AnswersLimits nodes (Err (Edges p)) = IsFirstEdgeBeyond nodes p
  AnswersLimits nodes (Err OutOfMemory) = ⊥
