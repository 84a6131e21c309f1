use Rattle.variant_graphs.proofs.Kept.{modules_kept}
use Rattle.variant_graphs.proofs.laws.splits_keep_modules.Goals as goal

pub returns : goal.returns
returns g c = λ s nodes numbered splits within. modules_kept s nodes numbered splits within
