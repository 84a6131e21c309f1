-- When the two rules leave a node as it is, by what the node has alone.
use Rattle.std.specs.Prelude.{◌==◌, Bool, length}
use Rattle.bp_props.specs.declared.props.Props.{Props}
use Rattle.graph_nodes.specs.declared.graph.Node.{Node}

-- A node names no defaults, so it asks for none.
abbrev pub names_no_defaults : Node Props → Bool
names_no_defaults x = length x.payload.defaults.items == 0

-- A node has no edges, so it takes over no record.
abbrev pub has_no_edges : Node Props → Bool
has_no_edges x = length x.edges == 0
