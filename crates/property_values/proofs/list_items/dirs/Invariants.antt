use Rattle.std.proofs.Common.{◌≡◌, ◌++◌, drop, Ok}
use Rattle.bp_faults.specs.Answers.{then_do}
use Rattle.bp_faults.specs.Phases.{each_in_turn}
use Rattle.property_values.specs.Fits.{dir_in}
use Rattle.property_values.proofs.list_items.dirs.Given as goal

abbrev pub invariant-loop-item : goal.invariant-loop-item
invariant-loop-item l =
    each_in_turn (dir_in l.base) l.items ≡ then_do (each_in_turn (dir_in l.base) (drop l.item-index l.items))
    (λ rest. Ok (l.dirs.items ++ rest))
