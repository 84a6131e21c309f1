use Rattle.bp_format.proofs.Quoting.{unescaped_back}
use Rattle.bp_format.proofs.laws.escapes_are_undone.Goals as goal

pub returns : goal.returns
returns c = λ cs. unescaped_back cs
