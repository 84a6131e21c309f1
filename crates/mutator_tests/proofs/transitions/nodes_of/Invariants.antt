use Rattle.std.proofs.Common.{◌≡◌, length}
use Rattle.mutator_tests.specs.Transitions.{HasNodes}
use Rattle.mutator_tests.proofs.transitions.nodes_of.Given as goal

abbrev pub invariant-loop-n : goal.invariant-loop-n
invariant-loop-n l = (length l.nodes.items ≡ l.n) × HasNodes (length l.targets) 0 l.nodes.items
