use Rattle.module_graph.proofs.Turned.{plan_free}
use Rattle.module_graph.proofs.laws.valid_plans_have_no_cycle.Goals as goal

pub returns : goal.returns
returns g c = λ nodes dir valid. plan_free nodes valid.ends dir valid.acyclic
