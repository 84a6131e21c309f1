use Rattle.ninja_write.proofs.PieceReading.{rule_values_apart}
use Rattle.ninja_write.proofs.laws.different_rule_values_are_written_differently.Goals as goal

pub returns : goal.returns
returns c = rule_values_apart
