use Rattle.property_tables.proofs.Consequences.{entries_come_first}
use Rattle.property_tables.proofs.laws.entries_come_first.Goals as goal

pub returns : goal.returns
returns c = entries_come_first
