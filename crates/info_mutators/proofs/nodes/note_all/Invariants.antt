use Rattle.std.proofs.Common.{◌≡◌, take, nat_eq}
use Rattle.indexmap.specs.IndexSet.{insert_all}
use Rattle.serial_pass.specs.Orders.{numbers}
use Rattle.info_mutators.specs.Kept.{if_short}
use Rattle.info_mutators.proofs.nodes.note_all.Given as goal

abbrev pub invariant-loop-node : goal.invariant-loop-node
invariant-loop-node l = if_short l.notes ≡ if_short (insert_all nat_eq l.fn.notes (numbers (take l.node-index l.nodes)))
