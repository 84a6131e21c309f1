use Rattle.bp_values.proofs.Distinct.{maps_stay_distinct}
use Rattle.bp_values.proofs.laws.names_of_a_map_differ.Goals as goal

pub returns : goal.returns
returns c = maps_stay_distinct
