-- When the rule `image` leaves a node as it is, by what the node has alone.
use Rattle.std.specs.Prelude.{Bool, not, ◌&&◌, ◌||◌}
use Rattle.bp_props.specs.declared.props.Props.{Props}
use Rattle.graph_nodes.specs.declared.graph.Node.{Node}
use Rattle.graph_nodes.specs.declared.variations.Axis.TheVariants.{Target as TargetAxis}
use Rattle.module_rules.specs.Asking.{variation_on}
use Rattle.target_mutators.specs.Images.{is_for_device, is_in_vendor, is_in_recovery, is_in_system}

-- A node isn't for a device, or it is in the system's own image and in no other.
abbrev pub is_in_system_alone : Node Props → Bool
is_in_system_alone x =
    not (is_for_device (variation_on TargetAxis x.vars))
    || (is_in_system x.payload && not (is_in_vendor x.payload || is_in_recovery x.payload))
