use Rattle.bp_pipeline.proofs.OneGraph.{one_graph}
use Rattle.bp_pipeline.proofs.laws.one_graph.Goals as goal

pub returns : goal.returns
returns c = one_graph c.one_course.ensures
