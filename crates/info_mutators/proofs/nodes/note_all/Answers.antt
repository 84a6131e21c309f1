use Rattle.info_mutators.proofs.Listed.{node_noted}
use Rattle.info_mutators.proofs.nodes.note_all.Goals as goal

pub loop-node-preserved : goal.loop-node-preserved
loop-node-preserved c =
    node_noted c.args.nodes.now c.loop-node.node-index (record { 0 = 0 }) c.loop-node-test.true c.args.notes.now
    c.loop-node.notes c.note.new.self c.loop-node.invariant c.in_ok-note.ensures
