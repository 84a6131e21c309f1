use Rattle.property_tables.proofs.Consequences.{drops_exactly}
use Rattle.property_tables.proofs.laws.drops_exactly.Goals as goal

pub returns : goal.returns
returns c = drops_exactly
