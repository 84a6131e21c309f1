use Rattle.std.proofs.Common.{◌≡◌, take}
use Rattle.graph_picture.specs.Drawing.{marked_numbers}
use Rattle.graph_picture.proofs.draw.marked.Given as goal

abbrev pub invariant-loop-n : goal.invariant-loop-n
invariant-loop-n l = l.numbers.items ≡ marked_numbers (take l.n l.marks)
