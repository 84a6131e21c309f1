use Rattle.path_patterns.proofs.Reading.{read_means}
use Rattle.path_patterns.proofs.read.read.Goals as goal

pub returns-in-Ok-clause-gives : goal.returns-in-Ok-clause-gives
returns-in-Ok-clause-gives g c = read_means _ _ _ c.entries_are_one_list.ensures c.in-Ok.ensures.gives
