use Rattle.bp_run.proofs.Heads.{head_is_text}
use Rattle.bp_run.proofs.laws.head_is_text.Goals as goal

pub returns : goal.returns
returns c = head_is_text
