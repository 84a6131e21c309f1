use Rattle.graph_picture.specs.Growing.{IsLevel}
use Rattle.graph_picture.proofs.reach.mark_within.Given as goal

abbrev pub invariant-loop-level : goal.invariant-loop-level
invariant-loop-level l = IsLevel l.lists l.starts l.level l.marks.items l.front.items
