use Rattle.variant_graphs.proofs.Kept.{length-given, plan_given}
use Rattle.variant_graphs.proofs.laws.new_payloads_keep_plans.Goals as goal

pub returns : goal.returns
returns g c = λ nodes payloads dir. (length-given nodes payloads, plan_given dir nodes payloads)
