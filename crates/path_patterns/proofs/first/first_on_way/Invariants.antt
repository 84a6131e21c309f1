use Rattle.path_patterns.proofs.Begins.{FirstFrom}
use Rattle.path_patterns.proofs.first.first_on_way.Given as goal

abbrev pub invariant-loop-at : goal.invariant-loop-at
invariant-loop-at l = FirstFrom l.dir l.parts l.path l.clear l.at
