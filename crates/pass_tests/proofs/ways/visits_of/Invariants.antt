use Rattle.std.proofs.Common.{◌≡◌, take}
use Rattle.pass_ways.specs.Visits.{visits}
use Rattle.pass_tests.proofs.ways.visits_of.Given as goal

abbrev pub invariant-loop-n : goal.invariant-loop-n
invariant-loop-n l = l.made.items ≡ visits l.pass (take l.n-index l.order)
