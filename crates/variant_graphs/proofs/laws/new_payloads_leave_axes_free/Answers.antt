use Rattle.variant_graphs.proofs.Kept.{free_given}
use Rattle.variant_graphs.proofs.laws.new_payloads_leave_axes_free.Goals as goal

pub returns : goal.returns
returns g c = λ nodes payloads axis free. free_given nodes payloads axis free
