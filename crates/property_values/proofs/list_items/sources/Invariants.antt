use Rattle.std.proofs.Common.{◌≡◌, ◌++◌, drop, Ok}
use Rattle.bp_faults.specs.Answers.{then_do}
use Rattle.bp_faults.specs.Phases.{each_in_turn}
use Rattle.property_values.specs.Fits.{source_in}
use Rattle.property_values.proofs.list_items.sources.Given as goal

abbrev pub invariant-loop-item : goal.invariant-loop-item
invariant-loop-item l =
    each_in_turn (source_in l.dir) l.items ≡ then_do
    (each_in_turn (source_in l.dir) (drop l.item-index l.items)) (λ rest. Ok (l.sources.items ++ rest))
