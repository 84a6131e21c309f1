use Rattle.std.proofs.Common.{◌≡◌, ◌++◌, map, take}
use Rattle.std.specs.List.{filter, flat_map}
use Rattle.graph_picture.specs.Drawing.{arrow_drawn, is_inside}
use Rattle.graph_picture.proofs.draw.put_arrows.Given as goal

abbrev pub invariant-loop-arrow : goal.invariant-loop-arrow
invariant-loop-arrow l =
    l.text.items
    ≡ l.fn.text.items
    ++ flat_map arrow_drawn (filter (is_inside l.marks) (map (λ a. (l.n, a)) (take l.arrow-index l.edges)))
