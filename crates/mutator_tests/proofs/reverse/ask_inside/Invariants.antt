use Rattle.std.proofs.Common.{take}
use Rattle.reverse_deps.specs.Applied.{AskInside}
use Rattle.mutator_tests.proofs.reverse.ask_inside.Given as goal

abbrev pub invariant-loop-asker : goal.invariant-loop-asker
invariant-loop-asker l = AskInside l.count (take l.asker-index l.asked)
