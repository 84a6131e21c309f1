use Rattle.variant_graphs.proofs.SplitsOfOne.{kept_whole}
use Rattle.variant_graphs.proofs.laws.splits_of_one_keep.Goals as goal

pub returns : goal.returns
returns g c = λ s nodes ends free many one led. kept_whole s nodes many one led ends free
