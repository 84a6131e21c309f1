use Rattle.std.proofs.Common.{◌∙◌, ◌++◌, ap}
use Rattle.bp_faults.specs.declared.ids.NodeId.{NodeId}
use Rattle.pass_ways.proofs.Linked.{joined_more}
use Rattle.pass_ways.proofs.stretches.join_stretches.Goals as goal

pub loop-k-preserved : goal.loop-k-preserved
loop-k-preserved c =
    let d : NodeId = record { 0 = 0 } in
    joined_more c.args.size c.args.order.now c.args.turns.now c.loop-k.nodes.items c.extend_from_slice.new.self.items
    c.loop-k.k-index d c.loop-k-test.true
    c.loop-k.invariant (c.in_ok-extend_from_slice.ensures.items ∙ ap (λ l. c.loop-k.nodes.items ++ l)
    c.stretch_at.ensures)
