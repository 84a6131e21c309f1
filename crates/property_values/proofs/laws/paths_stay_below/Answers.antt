use Rattle.property_values.proofs.Joined.{stays_below}
use Rattle.property_values.proofs.laws.paths_stay_below.Goals as goal

pub returns : goal.returns
returns c = stays_below
