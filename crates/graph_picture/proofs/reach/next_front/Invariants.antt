use Rattle.std.proofs.Common.{[], take}
use Rattle.graph_picture.specs.Growing.{Grows, IsNext}
use Rattle.graph_picture.proofs.reach.next_front.Given as goal

abbrev pub invariant-loop-n : goal.invariant-loop-n
invariant-loop-n l = Grows (IsNext l.lists (take l.n-index l.front)) l.fn.marks [] l.marks l.next.items
