use Rattle.ninja_write.proofs.Reading.{values_apart}
use Rattle.ninja_write.proofs.laws.different_values_are_written_differently.Goals as goal

pub returns : goal.returns
returns c = values_apart
