use Rattle.std.proofs.Common.{◌≡◌, length, arith}
use Rattle.path_patterns.proofs.Rows.{nil_row}
use Rattle.path_patterns.proofs.glob.pass_nothing.Goals as goal

pub returns : goal.returns
returns c =
    let end : c.loop-i.i ≡ length c.args.name.now = omega arith in
    nil_row c.args.name.now c.loop-i.row (omega arith) (λ k h. c.loop-i.invariant k (omega arith))
