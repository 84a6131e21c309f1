-- When a rule of modules leaves every node of a graph as it is.
use Rattle.std.specs.Prelude.{◌≡◌, List, length, Result, Ok}
use Rattle.std.specs.List.{AllByRecursion}
use Rattle.bp_faults.specs.declared.fault.Fault.{Fault}
use Rattle.bp_props.specs.declared.module.Module.{Module}
use Rattle.bp_props.specs.declared.props.Props.{Props}
use Rattle.graph_nodes.specs.declared.graph.Node.{Node}
use Rattle.mutator_rules.specs.declared.split.Split.{Split}
use Rattle.mutator_rules.specs.Conditions.{MayRun, indices_in}
use Rattle.mutator_rules.specs.Idle.{LeavesAll, left_alone}
use Rattle.module_rules.specs.Seen.{at_node}

module _ (rule : Module → Node Props → List (Split Props) → Result (Split Props) Fault) where
  -- A rule leaves a node as it is, whatever its module and the results of its edges' targets are.
  abbrev pub LeavesNode : Node Props → Type 0
  LeavesNode x = (m : Module) (ins : List (Split Props)) → rule m x ins ≡ Ok (left_alone x)

-- A rule that leaves each node as it is leaves all of a graph, where the nodes are of modules.
abbrev pub LeavesAllByEach : Type 0
LeavesAllByEach =
    (rule : Module → Node Props → List (Split Props) → Result (Split Props) Fault) (mods : List Module)
    (nodes : List (Node Props)) → MayRun (indices_in (length mods)) nodes → AllByRecursion (LeavesNode rule) nodes
    → LeavesAll (at_node rule mods) nodes
