use Rattle.std.proofs.Common.{length, take}
use Rattle.pass_tests.proofs.Numbered.{IsNumberedSoFar}
use Rattle.pass_tests.proofs.graphs.is_numbered.Given as goal

abbrev pub invariant-loop-node : goal.invariant-loop-node
invariant-loop-node l = IsNumberedSoFar (take l.node-index l.nodes) (length l.nodes) l.many
