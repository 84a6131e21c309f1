use Rattle.module_graph.proofs.PlanOf.{plan_of_is_plan}
use Rattle.module_graph.proofs.laws.plans_of_graphs_are_plans.Goals as goal

pub returns : goal.returns
returns g c = λ nodes dir is. plan_of_is_plan dir nodes is
