use Rattle.std.proofs.Common.{take, length}
use Rattle.ready_counters.specs.Meaning.{AreFirst}
use Rattle.ready_counters.proofs.words.first_words.Given as goal

abbrev pub invariant-loop-edge : goal.invariant-loop-edge
invariant-loop-edge l = AreFirst l.plan.count (length l.plan.edges) (take l.edge-index l.plan.edges) l.words.items
