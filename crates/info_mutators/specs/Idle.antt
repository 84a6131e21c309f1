-- When the rules `sanitize` and `sdk` leave a node as it is, by what the node has alone.
use Rattle.std.specs.Prelude.{◌==◌, ◌&&◌, Bool, is_none, not}
use Rattle.bp_props.specs.declared.props.Props.{Props}
use Rattle.graph_nodes.specs.declared.graph.Node.{Node}
use Rattle.graph_nodes.specs.declared.variations.Axis.TheVariants.{Sanitize as SanitizeAxis}
use Rattle.module_rules.specs.Asking.{variation_on}
use Rattle.info_mutators.specs.Sanitize.{is_asan, is_on}

-- The module of a node isn't on, so the node has no variation of the sanitizer by itself, and hands none on.
abbrev pub is_off : Node Props → Bool
is_off x = not (is_on x.payload)

-- A node isn't compiled with the sanitizer, and no code of the sanitizer is in it.
abbrev pub is_unsanitized : Node Props → Bool
is_unsanitized x = not (is_asan (variation_on SanitizeAxis x.vars)) && not x.payload.asan

-- A node sets no level, and it has the one that it gets where no level is handed to it.
abbrev pub has_no_level : Node Props → Bool
has_no_level x = (x.payload.level == 10000) && is_none x.payload.min_sdk_version
