-- `arch`: for which targets a module is built.
use Rattle.std.specs.Prelude.{Bool, true, false, ◌&&◌, not, ◌++◌, List, [], ◌∷◌, cond}
use Rattle.std.specs.List.{list_any}
use Rattle.std.specs.Option.{option_map_or}
use Rattle.bp_faults.specs.declared.target.Target.{Target}
use Rattle.bp_props.specs.declared.given.Given.{Given}
use Rattle.bp_props.specs.declared.kind.ModuleKind.{ModuleKind}
use Rattle.bp_props.specs.declared.kind.ModuleKind.TheVariants.{Binary, Test, Defaults, Filegroup}
use Rattle.bp_props.specs.declared.module.Module.{Module}
use Rattle.bp_props.specs.declared.multi.Multi.{Multi}
use Rattle.bp_props.specs.declared.multi.Multi.TheVariants.{Both, First, Only32, Only64}
use Rattle.bp_props.specs.declared.props.Props.{Props}
use Rattle.graph_nodes.specs.declared.graph.Node.{Node}
use Rattle.graph_nodes.specs.declared.variation.Variation.{Variation}
use Rattle.graph_nodes.specs.declared.variation.Variation.TheVariants.{Target as For, Common}
use Rattle.mutator_rules.specs.declared.config.Config.{Config}
use Rattle.target_mutators.specs.declared.targets.Bits.{Bits}
use Rattle.target_mutators.specs.declared.targets.Bits.TheVariants.{Bits32, Bits64}
use Rattle.target_mutators.specs.declared.targets.Class.{Class}
use Rattle.target_mutators.specs.declared.targets.Class.TheVariants.{Device, Host}
use Rattle.module_rules.specs.Flags.{is_true_or}
use Rattle.module_rules.specs.Variants.{if_enabled}
use Rattle.target_mutators.specs.Groups.{with_groups}
use Rattle.target_mutators.specs.Targets.{row_of, groups_of}

-- A module is built for devices unless it says otherwise, and for hosts if it says so.
abbrev pub is_supported : Class → Props → Bool
is_supported Device p = is_true_or true p.device_supported
is_supported Host p = is_true_or false p.host_supported

-- A binary and a test are built for the first target of a class, and the others for all.
abbrev pub default_multilib : ModuleKind → Multi
default_multilib Binary = First
default_multilib Test = First
default_multilib kind = Both

-- A module may say which targets of a class it is built for.
abbrev pub multilib_of : ModuleKind → Props → Multi
multilib_of kind p = option_map_or (λ (g : Given Multi). g.value) p.compile_multilib (default_multilib kind)

-- Whether two classes are one.
abbrev pub is_class : Class → Class → Bool
is_class Device Device = true
is_class Host Host = true
is_class a b = false

-- The table says of which class a target is.
abbrev pub is_of_class : Class → Target → Bool
is_of_class class target = is_class class (row_of target).class

-- The addresses of a target have 32 bits.
abbrev pub is_narrow : Bits → Bool
is_narrow Bits32 = true
is_narrow Bits64 = false

-- Of the targets of a class all are taken, the first alone, or those with 32 or 64 bits. A target is the first of its
-- class where none before it is of the class.
abbrev pub is_taken : Multi → List Target → Target → Bool
is_taken Both before target = true
is_taken First before target = not (list_any (is_of_class (row_of target).class) before)
is_taken Only32 before target = is_narrow (row_of target).bits
is_taken Only64 before target = not (is_narrow (row_of target).bits)

-- A module is built for a target of a class that it supports, where the target is one of those that are taken.
abbrev pub is_built : ModuleKind → Props → List Target → Target → Bool
is_built kind p before target = is_supported (row_of target).class p && is_taken (multilib_of kind p) before target

-- The variant of a target has the target's groups, and is dropped where it isn't enabled.
abbrev pub target_variant : ModuleKind → Props → List Target → Target → List (Variation × Props)
target_variant kind p before target =
    cond (is_built kind p before target) (if_enabled (For target) (with_groups p (groups_of target))) []

-- The variants stand in the configuration's order: those of the targets that follow some others.
abbrev pub target_variants : ModuleKind → Props → List Target → List Target → List (Variation × Props)
target_variants kind p before [] = []
target_variants kind p before (target ∷ targets) =
    target_variant kind p before target ++ target_variants kind p (before ++ target ∷ []) targets

-- Defaults aren't built, and a `filegroup` is the same for all targets.
abbrev pub variants_for_targets : ModuleKind → Props → List Target → List (Variation × Props)
variants_for_targets Defaults p targets = []
variants_for_targets Filegroup p targets = if_enabled Common p
variants_for_targets kind p targets = target_variants kind p [] targets

-- A node is split by the targets of a configuration.
abbrev pub arch_variants : Config → Module → Node Props → List (Variation × Props)
arch_variants c m x = variants_for_targets m.kind x.payload c.targets
