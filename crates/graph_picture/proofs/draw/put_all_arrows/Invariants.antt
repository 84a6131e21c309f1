use Rattle.std.proofs.Common.{◌≡◌, ◌++◌, take}
use Rattle.std.specs.List.{flat_map}
use Rattle.graph_picture.specs.Drawing.{arrow_drawn, shown_arrows}
use Rattle.graph_picture.proofs.draw.put_all_arrows.Given as goal

abbrev pub invariant-loop-n : goal.invariant-loop-n
invariant-loop-n l =
    l.text.items ≡ l.fn.text.items ++ flat_map arrow_drawn (shown_arrows (take l.n l.variants) l.marks)
