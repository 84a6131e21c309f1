use Rattle.std.proofs.Common.{◌-◌, ap, arith, ◌∙◌, length}
use Rattle.info_mutators.specs.Kept.{if_short}
use Rattle.info_mutators.proofs.Listed.{node_left, tail_there}
use Rattle.info_mutators.proofs.nodes.note_from_end.Goals as goal

pub loop-index-init : goal.loop-index-init
loop-index-init c = record {
  within = omega arith;
  left =
      ap if_short (tail_there c.args.nodes.now c.args.notes.now
      (length c.args.nodes.now - c.shared_tail.result) c.shared_tail.result c.shared_tail.ensures.same);
}

pub loop-index-preserved : goal.loop-index-preserved
loop-index-preserved c = record {
  within = omega (arith, c.loop-index.invariant.within, c.loop-index-test.true);
  left =
      node_left c.args.nodes.now (c.loop-index.index - 1) (record { 0 = 0 })
      (omega (arith, c.loop-index.invariant.within, c.loop-index-test.true)) c.loop-index.index
      (omega (arith, c.loop-index-test.true))
      c.loop-index.notes c.note.new.self c.in_ok-note.ensures ∙ c.loop-index.invariant.left;
}
