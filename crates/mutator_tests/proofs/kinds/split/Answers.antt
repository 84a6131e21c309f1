use Rattle.mutator_tests.proofs.Tested.{variants_differ}
use Rattle.mutator_tests.proofs.kinds.split.Goals as goal

pub run_bottom_up-requires-clause-differ : goal.run_bottom_up-requires-clause-differ
run_bottom_up-requires-clause-differ g c = λ κs outlives. variants_differ c.in_ok-g.g.nodes
