use Rattle.ninja_write.proofs.Reading.{paths_apart}
use Rattle.ninja_write.proofs.laws.different_paths_are_written_differently.Goals as goal

pub returns : goal.returns
returns c = paths_apart
