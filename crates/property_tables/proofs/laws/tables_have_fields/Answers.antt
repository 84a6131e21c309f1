use Rattle.property_tables.proofs.Consequences.{tables_have_fields}
use Rattle.property_tables.proofs.laws.tables_have_fields.Goals as goal

pub returns : goal.returns
returns c = tables_have_fields
