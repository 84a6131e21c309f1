use Rattle.variant_graphs.proofs.OwnResults.{own_made}
use Rattle.variant_graphs.proofs.laws.idle_passes_make.Goals as goal

pub returns : goal.returns
returns g c =
    λ dir nodes mean own numbered valid keeps.
    own_made own c.one_solution.ensures c.predecessors_are_nodes.ensures dir nodes mean
    (c.plans_of_graphs_are_plans.ensures nodes dir numbered) (c.valid_plans_have_no_cycle.ensures nodes dir valid) keeps
