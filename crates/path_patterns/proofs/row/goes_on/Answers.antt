use Rattle.std.proofs.Common.{sym, ◌∙◌, arith}
use Rattle.path_patterns.proofs.Places.{on_here, on_past}
use Rattle.path_patterns.proofs.row.goes_on.Goals as goal

pub loop-place-preserved : goal.loop-place-preserved
loop-place-preserved c =
    c.loop-place.invariant
    ∙ on_past c.args.parts.now c.args.row.now c.loop-place.place-index _ (omega arith) c.if-place-parts.false

pub returns-then-place-parts : goal.returns-then-place-parts
returns-then-place-parts c =
    sym (c.loop-place.invariant
    ∙ on_here c.args.parts.now c.args.row.now c.loop-place.place-index _ (omega arith) c.if-place-parts.true)
