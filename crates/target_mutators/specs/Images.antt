-- `image`: on which images of a device a module is installed.
use Rattle.std.specs.Prelude.{Bool, false, ◌||◌, not, ◌++◌, List, [], ◌∷◌, cond}
use Rattle.bp_props.specs.declared.group_id.GroupId.{GroupId}
use Rattle.bp_props.specs.declared.group_id.GroupId.TheVariants as G
use Rattle.bp_props.specs.declared.module.Module.{Module}
use Rattle.bp_props.specs.declared.props.Props.{Props}
use Rattle.graph_nodes.specs.declared.graph.Node.{Node}
use Rattle.graph_nodes.specs.declared.variation.Variation.{Variation}
use Rattle.graph_nodes.specs.declared.variation.Variation.TheVariants.{Empty, Target, Vendor, Recovery}
use Rattle.graph_nodes.specs.declared.variations.Axis.TheVariants.{Target as TargetAxis}
use Rattle.module_rules.specs.Asking.{variation_on}
use Rattle.module_rules.specs.Flags.{is_true_or}
use Rattle.module_rules.specs.Groups.{with_group}
use Rattle.module_rules.specs.Variants.{if_enabled}
use Rattle.target_mutators.specs.declared.targets.Class.TheVariants.{Device}
use Rattle.target_mutators.specs.Arch.{is_of_class}

-- A variant is built for a device where its target is one.
abbrev pub is_for_device : Variation → Bool
is_for_device (Target target) = is_of_class Device target
is_for_device variation = false

-- A module is in the image `vendor` where one of two properties says so.
abbrev pub is_in_vendor : Props → Bool
is_in_vendor p = is_true_or false p.vendor || is_true_or false p.vendor_available

-- It is in the image `recovery` likewise.
abbrev pub is_in_recovery : Props → Bool
is_in_recovery p = is_true_or false p.recovery || is_true_or false p.recovery_available

-- It is in the system's own image, which has no name, unless it is made for one of the others alone.
abbrev pub is_in_system : Props → Bool
is_in_system p = not (is_true_or false p.vendor || is_true_or false p.recovery)

-- The variant of an image has the image's group, and is dropped where it isn't enabled.
abbrev pub image_variant : Bool → Variation → GroupId → Props → List (Variation × Props)
image_variant is_in v id p = cond is_in (if_enabled v (with_group p id)) []

-- A module has these variants for a device.
abbrev pub device_images : Props → List (Variation × Props)
device_images p =
    cond (is_in_system p) ((Empty, p) ∷ []) []
    ++ image_variant (is_in_vendor p) Vendor G.Vendor p
    ++ image_variant (is_in_recovery p) Recovery G.Recovery p

-- There are images on devices alone.
abbrev pub images_of : Variation → Props → List (Variation × Props)
images_of target p = cond (is_for_device target) (device_images p) ((Empty, p) ∷ [])

-- A node is split by the images of its target.
abbrev pub image_variants : Module → Node Props → List (Variation × Props)
image_variants m x = images_of (variation_on TargetAxis x.vars) x.payload
