use Rattle.bp_pipeline.proofs.OneReplay.{journal_texts_are_replayed}
use Rattle.bp_pipeline.proofs.laws.journal_texts_are_replayed.Goals as goal

pub returns : goal.returns
returns c = journal_texts_are_replayed c.journals_are_read_back.ensures c.journals_are_replayed.ensures
