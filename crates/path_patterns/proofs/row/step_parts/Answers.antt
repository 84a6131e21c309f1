use Rattle.std.proofs.Common.{[], sym, ◌∙◌, arith}
use Rattle.path_patterns.proofs.Places.{parts_onward}
use Rattle.path_patterns.proofs.row.step_parts.Goals as goal

pub loop-at-preserved : goal.loop-at-preserved
loop-at-preserved c =
    parts_onward c.args.parts.now c.loop-at.at c.args.name.now _ _ _ (omega arith)
    (sym (c.goes_deep.ensures []) ∙ c.if-not-goes_deep.false) (c.in_ok-skip.ensures c.args.parts.now)
    c.loop-at.invariant
