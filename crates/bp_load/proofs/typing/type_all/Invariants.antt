use Rattle.std.proofs.Common.{◌≡◌, ◌++◌, map, length, drop}
use Rattle.std.specs.Prelude.{Ok}
use Rattle.bp_faults.specs.Answers.{then_do}
use Rattle.bp_load.specs.Inherited.{placed_raw}
use Rattle.bp_load.specs.Loaded.{all_typed}
use Rattle.bp_load.proofs.typing.type_all.Given as goal

abbrev pub invariant-loop-raw : goal.invariant-loop-raw
invariant-loop-raw l =
    all_typed (map placed_raw l.fn.raws.items)
    ≡ then_do (all_typed (drop (length l.yielded) (map placed_raw l.fn.raws.items)))
    (λ more. Ok (l.modules.items ++ more))
