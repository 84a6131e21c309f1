use Rattle.module_graph.proofs.Turned.{plan_free, plan_free_only}
use Rattle.module_graph.proofs.laws.none_returns_where_plans_have_no_cycle.Goals as goal

pub returns : goal.returns
returns g c = λ nodes dir ends. (plan_free nodes ends dir, plan_free_only nodes ends dir)
