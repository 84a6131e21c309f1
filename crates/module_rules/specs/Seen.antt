-- What a rule sees of a graph: nodes, and their modules. A rule is called on nodes of the graph alone.
use Rattle.std.specs.Prelude.{◌≡◌, ℕ, List, [], map, replicate, Some, Result, Ok, slice_get, slice_index_or}
use Rattle.std.specs.Option.{option_map_or}
use Rattle.bp_faults.specs.declared.fault.Fault.{Fault}
use Rattle.bp_props.specs.declared.kind.ModuleKind.TheVariants.{Filegroup}
use Rattle.bp_props.specs.declared.module.Module.{Module}
use Rattle.bp_props.specs.declared.props.Props.{Props}
use Rattle.bp_props.specs.Records.{props_empty}
use Rattle.graph_nodes.specs.declared.graph.Edge.{Edge}
use Rattle.graph_nodes.specs.declared.graph.Node.{Node}
use Rattle.graph_nodes.specs.declared.variation.Variation.TheVariants.{Empty}
use Rattle.graph_nodes.specs.Nodes.{targets}
use Rattle.mutator_rules.specs.declared.split.Split.{Split}
use Rattle.module_rules.specs.Results.{one_variant}

-- What a rule from the bottom up answers beyond the nodes or the modules, where none is called.
abbrev pub empty_result : Split Props
empty_result = one_variant props_empty []

-- What a rule answers of a node that may be there, if its module may be there.
abbrev pub at_module : (Module → Result (Split Props) Fault) → List Module → ℕ → Result (Split Props) Fault
at_module rule mods m = option_map_or rule (slice_get mods m) (Ok empty_result)

-- What a rule answers at a node, of the node's module, the node, and the results of its edges' targets.
abbrev pub at_node : (Module → Node Props → List (Split Props) → Result (Split Props) Fault)
    → List Module → List (Node Props) → ℕ → List (Split Props) → Result (Split Props) Fault
at_node rule mods nodes n ins =
    option_map_or (λ (x : Node Props). at_module (λ m. rule m x ins) mods x.«module».0)
    (slice_get nodes n) (Ok empty_result)

-- Beyond the nodes nothing is set.
abbrev pub node_empty : Node Props
node_empty = record { «module» = record { 0 = 0 }; vars = replicate 5 Empty; payload = props_empty; edges = [] }

-- Beyond the modules nothing is set.
abbrev pub module_empty : Module
module_empty = record {
  name = [];
  kind = Filegroup;
  dir = [];
  at = record { file = 0; line = 0; col = 0 };
  props = props_empty;
}

-- The node of a number.
abbrev pub node_at : List (Node Props) → ℕ → Node Props
node_at nodes n = slice_index_or nodes n node_empty

-- The module of a number.
abbrev pub module_at : List Module → ℕ → Module
module_at mods m = slice_index_or mods m module_empty

-- The module of the node of a number.
abbrev pub module_of : List Module → List (Node Props) → ℕ → Module
module_of mods nodes n = module_at mods (node_at nodes n).«module».0

-- The module m and the node x are what is seen at node n. The edges of x lead to the targets of n.
pub record IsSeen (mods : List Module) (nodes : List (Node Props)) (n : ℕ) (m : Module) (x : Node Props) : Type 0 where
  pub node_is : slice_get nodes n ≡ Some x
  pub module_is : slice_get mods x.«module».0 ≡ Some m
  pub node_here : node_at nodes n ≡ x
  pub module_here : module_of mods nodes n ≡ m
  pub targets_are : targets nodes n ≡ map (λ (e : Edge). e.to.0) x.edges
