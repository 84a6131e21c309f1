use Rattle.bp_pipeline.proofs.OneReplay.{journals_are_replayed}
use Rattle.bp_pipeline.proofs.laws.journals_are_replayed.Goals as goal

pub returns : goal.returns
returns c = journals_are_replayed c.one_replay.ensures
