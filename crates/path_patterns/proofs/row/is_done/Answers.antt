use Rattle.std.proofs.Common.{sym, ◌∙◌, arith}
use Rattle.path_patterns.proofs.Places.{done_here, done_past}
use Rattle.path_patterns.proofs.row.is_done.Goals as goal

pub loop-place-preserved : goal.loop-place-preserved
loop-place-preserved c =
    c.loop-place.invariant
    ∙ done_past c.args.parts.now c.args.row.now c.loop-place.place-index _ (omega arith) c.if-place-parts.false

pub returns-then-place-parts : goal.returns-then-place-parts
returns-then-place-parts c =
    sym (c.loop-place.invariant
    ∙ done_here c.args.parts.now c.args.row.now c.loop-place.place-index _ (omega arith) c.if-place-parts.true)
