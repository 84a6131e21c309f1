use Rattle.std.proofs.Common.{◌≡◌, ◌++◌, take}
use Rattle.std.specs.List.{flat_map}
use Rattle.graph_picture.specs.Drawing.{box_drawn}
use Rattle.graph_picture.proofs.draw.put_boxes.Given as goal

abbrev pub invariant-loop-n : goal.invariant-loop-n
invariant-loop-n l = l.text.items ≡ l.fn.text.items ++ flat_map (box_drawn l.variants) (take l.n-index l.numbers)
