use Rattle.module_rules.proofs.OneVariant.{one_differs}
use Rattle.module_rules.proofs.laws.unsplit_results_differ.Goals as goal

pub returns : goal.returns
returns c = λ mean nodes shaped n ins made inside is. one_differs made.variants (shaped nodes n ins made is)
