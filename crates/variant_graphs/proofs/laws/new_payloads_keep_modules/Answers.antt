use Rattle.variant_graphs.proofs.Kept.{modules_given}
use Rattle.variant_graphs.proofs.laws.new_payloads_keep_modules.Goals as goal

pub returns : goal.returns
returns g c = λ nodes payloads numbered. modules_given nodes payloads numbered
