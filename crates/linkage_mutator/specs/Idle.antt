-- When the rules `plugins` and `per_src` leave a node as it is, by what the node has alone.
use Rattle.std.specs.Prelude.{◌==◌, Bool, false, not, length}
use Rattle.bp_props.specs.declared.props.Props.{Props}
use Rattle.graph_nodes.specs.declared.graph.Node.{Node}
use Rattle.module_rules.specs.Flags.{is_true_or}

-- A node is a plugin of no module, so it asks for nothing.
abbrev pub is_no_plugin : Node Props → Bool
is_no_plugin x = length x.payload.plugin_of.items == 0

-- A node isn't to be built for each of its sources, so it has one variant.
abbrev pub is_built_once : Node Props → Bool
is_built_once x = not (is_true_or false x.payload.test_per_src)
