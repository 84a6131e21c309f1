use Rattle.std.proofs.Common.{◌≡◌, ◌++◌, take}
use Rattle.pass_ways.specs.Visits.{visits}
use Rattle.bp_pipeline.proofs.journal.note.Given as goal

abbrev pub invariant-loop-n : goal.invariant-loop-n
invariant-loop-n l = l.journal.items ≡ l.fn.journal.items ++ visits l.pass (take l.n-index l.order)
