use Rattle.std.proofs.Common.{◌≡◌, length}
use Rattle.graph_nodes.specs.declared.variations.Axis.TheVariants.{PerSource}
use Rattle.variant_graphs.specs.Splitting.{HasFreeAxis}
use Rattle.mutator_tests.specs.Kinds.{OwnModules}
use Rattle.mutator_tests.proofs.kinds.graph.Given as goal

abbrev pub invariant-loop-n : goal.invariant-loop-n
invariant-loop-n l = OwnModules 0 l.nodes.items × HasFreeAxis PerSource l.nodes.items × (length l.nodes.items ≡ l.n)
