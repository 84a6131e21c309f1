use Rattle.std.proofs.Common.{◌≡◌, ◌≤◌, length, reverse, drop, nat_eq}
use Rattle.std.specs.List.{flat_map}
use Rattle.indexmap.specs.IndexSet.{insert_all}
use Rattle.serial_pass.specs.Orders.{numbers}
use Rattle.info_mutators.specs.Info.{line_part}
use Rattle.info_mutators.specs.Kept.{if_short}
use Rattle.info_mutators.proofs.nodes.note_line.Given as goal

-- the line's end is noted
abbrev pub invariant-loop-index : goal.invariant-loop-index
invariant-loop-index l = record {
  within : l.index ≤ length l.dependencies;
  end : if_short l.notes ≡ if_short (insert_all nat_eq l.fn.notes
      (reverse (flat_map (λ d. numbers (line_part d.node d.props d.kind)) (drop l.index l.dependencies))));
}

abbrev pub decreases-loop-index : goal.decreases-loop-index
decreases-loop-index l = l.index
