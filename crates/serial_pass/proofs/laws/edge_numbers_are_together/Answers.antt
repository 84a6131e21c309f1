use Rattle.std.proofs.Common.{◌-◌, ◌+◌, ◌∙◌, ap, zero-add}
use Rattle.std.specs.List.{range_with_len}
use Rattle.serial_pass.specs.InEdges.{edges_below}
use Rattle.serial_pass.proofs.NumbersPlaced.{numbers_placed}
use Rattle.serial_pass.proofs.laws.edge_numbers_are_together.Goals as goal

pub returns : goal.returns
returns c = λ edges n by.
    numbers_placed edges 0 n by
    ∙ ap (λ j. range_with_len j (edges_below edges (n + 1) - edges_below edges n)) (zero-add (edges_below edges n))
