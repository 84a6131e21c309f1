use Rattle.graph_picture.proofs.Turned.{IsTurning}
use Rattle.graph_picture.proofs.lists.turned_lists.Given as goal

abbrev pub invariant-loop-n : goal.invariant-loop-n
invariant-loop-n l = IsTurning l.lists l.n l.back.items
