-- Nodes that the rule `image` leaves as they are.
use Rattle.std.proofs.Common.{◌≡◌, ◌++◌, ap, refl, Bool, true, false, not, ◌&&◌, ◌||◌, cond, List, [], ◌∷◌, Result, Ok}
use Rattle.std.specs.List.{AllByRecursion, list_all}
use Rattle.std.proofs.lemmas.Bool.{and_parts}
use Rattle.bp_faults.specs.declared.fault.Fault.{Fault}
use Rattle.bp_props.specs.declared.group_id.GroupId.TheVariants as G
use Rattle.bp_props.specs.declared.props.Props.{Props}
use Rattle.graph_nodes.specs.declared.graph.Node.{Node}
use Rattle.graph_nodes.specs.declared.variation.Variation.{Variation}
use Rattle.graph_nodes.specs.declared.variation.Variation.TheVariants.{Empty, Vendor, Recovery}
use Rattle.graph_nodes.specs.declared.variations.Axis.TheVariants.{Target}
use Rattle.mutator_rules.specs.declared.split.Split.{Split}
use Rattle.module_rules.specs.Asking.{variation_on}
use Rattle.module_rules.specs.Groups.{with_group}
use Rattle.module_rules.specs.Idle.{LeavesNode}
use Rattle.module_rules.specs.Variants.{if_enabled}
use Rattle.target_mutators.specs.Idle.{is_in_system_alone}
use Rattle.target_mutators.specs.Images.{image_variants, is_for_device, is_in_vendor, is_in_recovery, is_in_system}

abbrev Variants : Type 0
Variants = List (Variation × Props)

abbrev answered : Variants → Result (Split Props) Fault
answered variants = Ok (record { variants = variants; requests = [] })

-- of the variants for a device the system's own is left, or the node isn't for one
own_alone : (device system vendor recovery : Bool) (own : Variation × Props) (vs rs : Variants)
    → (not device || (system && not (vendor || recovery))) ≡ true
    → cond device (cond system (own ∷ []) [] ++ cond vendor vs [] ++ cond recovery rs []) (own ∷ []) ≡ own ∷ []
own_alone false system vendor recovery own vs rs is = refl
own_alone true true false false own vs rs is = refl
own_alone true true false true own vs rs is = cc
own_alone true true true recovery own vs rs is = cc
own_alone true false vendor recovery own vs rs is = cc

pub leave_images : (nodes : List (Node Props)) → list_all is_in_system_alone nodes ≡ true
    → AllByRecursion (LeavesNode (λ m x ins. Ok (record { variants = image_variants m x; requests = [] }))) nodes
leave_images [] is = tt
leave_images (x ∷ nodes) is =
    let parts = and_parts (is_in_system_alone x) (list_all is_in_system_alone nodes) is in
    let p = x.payload in (
      λ m ins. ap answered (own_alone (is_for_device (variation_on Target x.vars)) (is_in_system p) (is_in_vendor p)
          (is_in_recovery p) (Empty, p) (if_enabled Vendor (with_group p G.Vendor))
          (if_enabled Recovery (with_group p G.Recovery)) parts.0),
      leave_images nodes parts.1,
    )
