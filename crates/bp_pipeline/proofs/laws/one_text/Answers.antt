use Rattle.bp_pipeline.proofs.OneGraph.{text_once}
use Rattle.bp_pipeline.proofs.laws.one_text.Goals as goal

pub returns : goal.returns
returns c mods config = text_once c.one_course.ensures c.at_most_one_outcome.ensures mods config
