-- What holds of the two rules that split.
use Rattle.std.specs.Prelude.{List}
use Rattle.bp_props.specs.declared.module.Module.{Module}
use Rattle.bp_props.specs.declared.props.Props.{Props}
use Rattle.graph_nodes.specs.declared.graph.Node.{Node}
use Rattle.module_rules.specs.Laws.{VariationsDiffer}
use Rattle.module_rules.specs.Rules.{splits}
use Rattle.linkage_mutator.specs.Links.{link_variants}
use Rattle.linkage_mutator.specs.Sources.{source_variants}

-- The variants of a node by link differ in their variations.
abbrev pub LinkVariantsDiffer : Type 0
LinkVariantsDiffer =
    (mods : List Module) (nodes : List (Node Props)) → VariationsDiffer (splits link_variants mods) nodes

-- So do the variants of a node by source.
abbrev pub SourceVariantsDiffer : Type 0
SourceVariantsDiffer =
    (mods : List Module) (nodes : List (Node Props)) → VariationsDiffer (splits source_variants mods) nodes
