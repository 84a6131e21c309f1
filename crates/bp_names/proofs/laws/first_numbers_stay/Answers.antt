use Rattle.bp_names.proofs.Numbers.{first_number_stays}
use Rattle.bp_names.proofs.laws.first_numbers_stay.Goals as goal

pub returns : goal.returns
returns c = first_number_stays
