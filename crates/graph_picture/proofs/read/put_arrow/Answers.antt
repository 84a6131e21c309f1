use Rattle.std.proofs.Common.{◌-◌, ◌<◌, arith, refl, vec_len}
use Rattle.graph_picture.proofs.Puts.{arrow_put, lone_arrow}
use Rattle.graph_picture.proofs.read.put_arrow.Goals as goal

pub returns-in_ok-push-in-Some : goal.returns-in_ok-push-in-Some
returns-in_ok-push-in-Some c =
    let vs = c.args.variants.now.items in
    arrow_put c.in-Some.last.now _ c.args.arrow refl refl c.in_ok-push-in-Some.ensures.ok vs
    (vec_len c.args.variants.now - 1) c.requires
    (omega (arith, c.args.variants.now.ok.0, c.in-Some.ensures.variant.0 refl)) c.in-Some.ensures.value

pub returns-in-None : goal.returns-in-None
returns-in-None c =
    let none : ¬ (0 < vec_len c.args.variants.now) = λ some. let e = c.in-None.ensures.variant.1 some in cc in
    lone_arrow c.args.variants.now.items c.args.arrow (omega (arith, c.args.variants.now.ok.0))
