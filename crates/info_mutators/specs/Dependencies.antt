-- The dependencies of a node.
use Rattle.std.specs.Prelude.{ℕ, Bool, true, false, List, map}
use Rattle.std.specs.List.{zip}
use Rattle.std.specs.Option.{unwrap_or}
use Rattle.bp_faults.specs.declared.ids.NodeId.{NodeId}
use Rattle.bp_props.specs.declared.module.Module.{Module}
use Rattle.bp_props.specs.declared.props.Props.{Props}
use Rattle.bp_props.specs.Records.{props_empty}
use Rattle.graph_nodes.specs.declared.graph.Edge.{Edge}
use Rattle.graph_nodes.specs.declared.graph.EdgeKind.{EdgeKind}
use Rattle.graph_nodes.specs.declared.graph.EdgeKind.TheVariants.{Whole, Static, Shared, Header}
use Rattle.graph_nodes.specs.declared.graph.Node.{Node}
use Rattle.module_rules.specs.Results.{first_record}
use Rattle.module_rules.specs.Seen.{module_of}
use Rattle.mutator_rules.specs.declared.split.Split.{Split}

-- An edge says of a dependency its kind, its node, the name of its module, and the record that was made of it.
pub record Dependency : Type 0 where
  pub kind : EdgeKind
  pub node : NodeId
  pub name : List ℕ
  pub props : Props

-- A result without a record has nothing in its lists.
abbrev pub record_made : Split Props → Props
record_made made = unwrap_or (first_record made) props_empty

-- An edge and what was made of its end are a dependency.
abbrev pub dependency_along : List Module → List (Node Props) → Edge × Split Props → Dependency
dependency_along mods nodes p = record {
  kind = p.0.kind;
  node = p.0.to;
  name = (module_of mods nodes p.0.to.0).name;
  props = record_made p.1;
}

-- Some edges, and what was made of their ends, are dependencies in the order of the edges.
abbrev pub dependencies_of : List Module → List (Node Props) → List Edge → List (Split Props) → List Dependency
dependencies_of mods nodes edges made = map (dependency_along mods nodes) (zip edges made)

-- Whole and Static dependencies are put into what is linked.
abbrev pub is_archived : EdgeKind → Bool
is_archived Whole = true
is_archived Static = true
is_archived kind = false

-- Code is compiled or linked against Whole, Static, Shared and Header dependencies.
abbrev pub is_linked_against : EdgeKind → Bool
is_linked_against Whole = true
is_linked_against Static = true
is_linked_against Shared = true
is_linked_against Header = true
is_linked_against kind = false
