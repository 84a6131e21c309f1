use Rattle.std.proofs.Common.{◌≡◌, ◌+◌, ◌-◌, subst, arith}
use Rattle.path_patterns.specs.Globs.{star}
use Rattle.path_patterns.proofs.Rows.{RowFrom, star_step}
use Rattle.path_patterns.proofs.glob.pass_star.Goals as goal

pub loop-i-preserved : goal.loop-i-preserved
loop-i-preserved c = λ passes all.
    let e : c.loop-i.i ≡ c.loop-i.i - 1 + 1 = omega arith in
    star_step passes c.args.name.now c.loop-i.row (c.loop-i.i - 1) (omega arith) (omega arith)
    (subst (λ n. RowFrom passes (star passes) c.args.name.now c.loop-i.row n) e (c.loop-i.invariant passes all))
