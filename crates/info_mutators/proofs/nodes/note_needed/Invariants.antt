use Rattle.std.proofs.Common.{◌≡◌, take, nat_eq}
use Rattle.std.specs.List.{flat_map}
use Rattle.indexmap.specs.IndexSet.{insert_all}
use Rattle.serial_pass.specs.Orders.{numbers}
use Rattle.info_mutators.specs.Info.{needed_part}
use Rattle.info_mutators.specs.Kept.{if_short}
use Rattle.info_mutators.proofs.nodes.note_needed.Given as goal

abbrev pub invariant-loop-dependency : goal.invariant-loop-dependency
invariant-loop-dependency l =
    if_short l.notes ≡ if_short (insert_all nat_eq l.fn.notes
    (flat_map (λ d. numbers (needed_part d)) (take l.dependency-index l.dependencies)))
