use Rattle.bp_pipeline.proofs.OneReplay.{replay_once}
use Rattle.bp_pipeline.proofs.laws.one_replay.Goals as goal

pub returns : goal.returns
returns c mods config lines file =
    replay_once c.one_course.ensures c.at_most_one_outcome.ensures c.lines_say_one_order.ensures
    c.refused_have_no_order.ensures c.one_refusal.ensures mods config lines file
