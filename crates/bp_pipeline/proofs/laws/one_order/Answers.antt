use Rattle.bp_pipeline.proofs.OneReplay.{one_order}
use Rattle.bp_pipeline.proofs.laws.one_order.Goals as goal

pub returns : goal.returns
returns c = one_order c.one_replay.ensures c.one_lines.ensures
