use Rattle.mutator_tests.proofs.Tested.{nodes_stay}
use Rattle.mutator_tests.proofs.kinds.left_by_two.Goals as goal

pub run_idle_by-requires-clause-alone : goal.run_idle_by-requires-clause-alone
run_idle_by-requires-clause-alone g c = λ κs outlives. nodes_stay c.in_ok-g.g.nodes
