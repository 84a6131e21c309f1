-- Which modules a module takes its defaults from.
use Rattle.std.specs.Prelude.{List}
use Rattle.bp_props.specs.declared.module.Module.{Module}
use Rattle.bp_props.specs.declared.props.Props.{Props}
use Rattle.graph_nodes.specs.declared.graph.EdgeKind.TheVariants.{Defaults}
use Rattle.graph_nodes.specs.declared.graph.Node.{Node}
use Rattle.mutator_rules.specs.declared.request.Request.{Request}
use Rattle.module_rules.specs.Asking.{requests, no_variations}

-- One edge of kind Defaults is asked for by each item of `defaults`, in order.
abbrev pub defaults_asked : Module → Node Props → List Request
defaults_asked m x = requests Defaults no_variations x.payload.defaults.items
