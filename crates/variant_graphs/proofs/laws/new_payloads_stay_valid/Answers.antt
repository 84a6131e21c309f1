use Rattle.variant_graphs.proofs.Kept.{valid_given}
use Rattle.variant_graphs.proofs.laws.new_payloads_stay_valid.Goals as goal

pub returns : goal.returns
returns g c = λ nodes payloads valid. valid_given nodes payloads valid
