use Rattle.std.proofs.Common.{◌≡◌, ◌++◌, drop, Ok}
use Rattle.bp_faults.specs.Answers.{then_do}
use Rattle.bp_faults.specs.Phases.{each_in_turn}
use Rattle.property_values.specs.Fits.{flag_in}
use Rattle.property_values.proofs.list_items.flags.Given as goal

abbrev pub invariant-loop-item : goal.invariant-loop-item
invariant-loop-item l =
    each_in_turn (flag_in (l.prefix ++ l.name)) l.items ≡ then_do
    (each_in_turn (flag_in (l.prefix ++ l.name)) (drop l.item-index l.items)) (λ rest. Ok (l.flags.items ++ rest))
