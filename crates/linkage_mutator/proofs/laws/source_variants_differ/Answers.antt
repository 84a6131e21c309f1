use Rattle.linkage_mutator.specs.Sources.{source_variants}
use Rattle.linkage_mutator.proofs.Differing.{source_variants_apart}
use Rattle.linkage_mutator.proofs.laws.source_variants_differ.Goals as goal

pub returns : goal.returns
returns c = λ mods nodes. c.split_results_differ.ensures source_variants mods nodes source_variants_apart
