use Rattle.variant_graphs.proofs.Kept.{free_stays}
use Rattle.variant_graphs.proofs.laws.other_axes_stay_free.Goals as goal

pub returns : goal.returns
returns g c = λ s nodes axis differs free. free_stays s nodes axis differs free
