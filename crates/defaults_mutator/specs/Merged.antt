-- What a module's record is with its defaults.
use Rattle.std.specs.Prelude.{List, [], ◌∷◌, Option, Some, None, fold, filter_map, zip}
use Rattle.bp_props.specs.declared.kind.ModuleKind.{ModuleKind}
use Rattle.bp_props.specs.declared.module.Module.{Module}
use Rattle.bp_props.specs.declared.props.Props.{Props}
use Rattle.bp_props.specs.Records.{props_followed, props_over, props_restricted}
use Rattle.graph_nodes.specs.declared.graph.Edge.{Edge}
use Rattle.graph_nodes.specs.declared.graph.EdgeKind.{EdgeKind}
use Rattle.graph_nodes.specs.declared.graph.EdgeKind.TheVariants.{Defaults}
use Rattle.graph_nodes.specs.declared.graph.Node.{Node}
use Rattle.mutator_rules.specs.declared.split.Split.{Split}
use Rattle.module_rules.specs.Results.{first_record}

-- An edge of kind Defaults gives the record of its target's result, and no other edge gives one.
abbrev pub record_by : EdgeKind → Split Props → Option Props
record_by Defaults made = first_record made
record_by kind made = None

-- The record that an edge gives, with the result of its target.
abbrev pub record_along : Edge × Split Props → Option Props
record_along along = record_by along.0.kind along.1

-- The records that edges give, in order.
abbrev pub defaults_given : List Edge → List (Split Props) → List Props
defaults_given edges ins = filter_map record_along (zip edges ins)

-- The first of some records, followed by each of the others.
abbrev pub records_followed : List Props → Option Props
records_followed [] = None
records_followed (p ∷ ps) = Some (fold props_followed p ps)

-- A module's own record stands over that of its defaults, and keeps what its kind has. Without defaults it stays.
abbrev pub over_defaults : ModuleKind → Props → Option Props → Props
over_defaults kind own None = own
over_defaults kind own (Some given) = props_restricted kind (props_over given own)

-- The record of a node over the records that its edges of kind Defaults give.
abbrev pub defaults_merged : Module → Node Props → List (Split Props) → Props
defaults_merged m x ins = over_defaults m.kind x.payload (records_followed (defaults_given x.edges ins))
