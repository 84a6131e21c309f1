-- What holds of the results of both rules: no two variants have one variation.
use Rattle.std.specs.Prelude.{List}
use Rattle.bp_props.specs.declared.module.Module.{Module}
use Rattle.bp_props.specs.declared.props.Props.{Props}
use Rattle.graph_nodes.specs.declared.graph.Node.{Node}
use Rattle.mutator_rules.specs.declared.config.Config.{Config}
use Rattle.mutator_rules.specs.Configs.{TargetsDiffer}
use Rattle.module_rules.specs.Laws.{VariationsDiffer}
use Rattle.module_rules.specs.Rules.{splits}
use Rattle.target_mutators.specs.Arch.{arch_variants}
use Rattle.target_mutators.specs.Images.{image_variants}

-- Where the targets of a configuration differ, so do the variations that `arch` makes of a node.
abbrev pub TargetVariantsDiffer : Type 0
TargetVariantsDiffer =
    (c : Config) (mods : List Module) (nodes : List (Node Props))
    → TargetsDiffer c → VariationsDiffer (splits (arch_variants c) mods) nodes

-- The variations that `image` makes of a node differ.
abbrev pub ImageVariantsDiffer : Type 0
ImageVariantsDiffer =
    (mods : List Module) (nodes : List (Node Props)) → VariationsDiffer (splits image_variants mods) nodes
