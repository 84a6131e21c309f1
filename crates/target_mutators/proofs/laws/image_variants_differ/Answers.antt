use Rattle.graph_nodes.specs.declared.variations.Axis.TheVariants.{Target}
use Rattle.module_rules.specs.Asking.{variation_on}
use Rattle.target_mutators.specs.Images.{image_variants}
use Rattle.target_mutators.proofs.Differ.{images_differ}
use Rattle.target_mutators.proofs.laws.image_variants_differ.Goals as goal

pub returns : goal.returns
returns c mods nodes =
    c.split_results_differ.ensures image_variants mods nodes
    (λ m x. images_differ (variation_on Target x.vars) x.payload)
