use Rattle.std.proofs.Common.{◌≡◌, ◌≤◌, length, reverse, take, nat_eq}
use Rattle.indexmap.specs.IndexSet.{insert_all}
use Rattle.serial_pass.specs.Orders.{numbers}
use Rattle.info_mutators.specs.Kept.{if_short}
use Rattle.info_mutators.proofs.nodes.note_from_end.Given as goal

-- what is left is noted next
abbrev pub invariant-loop-index : goal.invariant-loop-index
invariant-loop-index l = record {
  within : l.index ≤ length l.nodes;
  left : if_short (insert_all nat_eq l.notes (reverse (numbers (take l.index l.nodes))))
      ≡ if_short (insert_all nat_eq l.fn.notes (reverse (numbers l.nodes)));
}

abbrev pub decreases-loop-index : goal.decreases-loop-index
decreases-loop-index l = l.index
