use Rattle.source_patterns.proofs.Once.{expand_once}
use Rattle.source_patterns.proofs.laws.one_expansion.Goals as goal

pub returns : goal.returns
returns c = expand_once
