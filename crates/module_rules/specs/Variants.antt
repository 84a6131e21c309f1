-- When a variant is kept.
use Rattle.std.specs.Prelude.{List, [], ◌∷◌, cond}
use Rattle.bp_props.specs.declared.props.Props.{Props}
use Rattle.graph_nodes.specs.declared.variation.Variation.{Variation}
use Rattle.module_rules.specs.Flags.{is_enabled}

-- A variant is dropped where its record isn't enabled.
abbrev pub if_enabled : Variation → Props → List (Variation × Props)
if_enabled v p = cond (is_enabled p) ((v, p) ∷ []) []
