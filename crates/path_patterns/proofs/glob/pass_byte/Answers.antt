use Rattle.std.proofs.Common.{◌≡◌, length, subst, arith}
use Rattle.path_patterns.specs.Globs.{next}
use Rattle.path_patterns.proofs.Rows.{RowFrom, row_starts, byte_step, byte_whole}
use Rattle.path_patterns.proofs.glob.pass_byte.Goals as goal

pub loop-i-init : goal.loop-i-init
loop-i-init c = λ passes all. row_starts (next c.args.byte passes) passes c.args.name.now c.args.row.now all

pub loop-i-preserved : goal.loop-i-preserved
loop-i-preserved c = λ passes all.
    byte_step c.args.byte passes c.args.name.now c.loop-i.row c.loop-i.i (omega arith) (omega arith)
    (c.loop-i.invariant passes all)

pub returns : goal.returns
returns c = λ passes all.
    let end : c.loop-i.i ≡ length c.args.name.now = omega arith in
    byte_whole c.args.byte passes c.args.name.now c.loop-i.row (omega arith)
    (subst (λ k. RowFrom (next c.args.byte passes) passes c.args.name.now c.loop-i.row k) end
    (c.loop-i.invariant passes all))
