use Rattle.std.proofs.Common.{Contains, take}
use Rattle.graph_picture.specs.Growing.{Grows}
use Rattle.graph_picture.proofs.reach.mark_all.Given as goal

abbrev pub invariant-loop-n : goal.invariant-loop-n
invariant-loop-n l = Grows (Contains (take l.n-index l.list)) l.fn.marks l.fn.front.items l.marks l.front.items
