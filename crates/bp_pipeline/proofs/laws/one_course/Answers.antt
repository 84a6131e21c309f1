use Rattle.bp_pipeline.proofs.OneGraph.{one_course}
use Rattle.bp_pipeline.proofs.laws.one_course.Goals as goal

pub returns : goal.returns
returns c =
    one_course c.one_bottom_up_outcome.ensures c.one_top_down_outcome.ensures c.one_wants_outcome.ensures
    c.one_mutate_outcome.ensures c.one_outcome.ensures
