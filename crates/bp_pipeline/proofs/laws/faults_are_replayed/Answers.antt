use Rattle.bp_pipeline.proofs.OneReplay.{faults_are_replayed}
use Rattle.bp_pipeline.proofs.laws.faults_are_replayed.Goals as goal

pub returns : goal.returns
returns c = faults_are_replayed c.one_replay.ensures
