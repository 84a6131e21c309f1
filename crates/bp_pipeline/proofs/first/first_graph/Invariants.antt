use Rattle.std.proofs.Common.{◌≡◌, take}
use Rattle.bp_pipeline.specs.First.{first_nodes}
use Rattle.bp_pipeline.proofs.first.first_graph.Given as goal

abbrev pub invariant-loop-number : goal.invariant-loop-number
invariant-loop-number l = l.nodes.items ≡ first_nodes (take l.number l.mods)
