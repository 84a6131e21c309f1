use Rattle.info_mutators.specs.Info.{info_meant}
use Rattle.info_mutators.specs.Shaped.{info_shaped}
use Rattle.info_mutators.proofs.laws.info_does_not_split.Goals as goal

pub returns : goal.returns
returns c mods nodes = c.unsplit_results_differ.ensures (info_meant mods) nodes (info_shaped mods)
