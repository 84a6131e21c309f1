use Rattle.std.proofs.Common.{arith}
use Rattle.path_patterns.proofs.Places.{row_onward}
use Rattle.path_patterns.proofs.row.behind.Goals as goal

pub loop-from-preserved : goal.loop-from-preserved
loop-from-preserved c =
    row_onward c.args.parts.now c.args.row.now c.loop-from.from-index _ (omega arith) c.args.name.now _ _ _
    c.in_ok-step.ensures c.loop-from.invariant
