use Rattle.module_graph.proofs.ShortCycle.{cycle_walk, cycle_short}
use Rattle.module_graph.proofs.laws.the_cycle_is_shortest.Goals as goal

pub returns : goal.returns
returns g c = λ nodes s first rest cycle. (cycle_walk nodes s first rest cycle, cycle_short nodes s first rest cycle)
