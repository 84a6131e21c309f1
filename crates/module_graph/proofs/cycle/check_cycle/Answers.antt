use Rattle.std.proofs.Common.{ap, length, arith}
use Rattle.module_graph.proofs.Starting.{returning_inside}
use Rattle.module_graph.proofs.cycle.check_cycle.Goals as goal

pub returns-then-from-as_slice : goal.returns-then-from-as_slice
returns-then-from-as_slice g c = λ n r.
    let inside = returning_inside c.args.g.now.nodes c.requires.ends n r in
    let all = ap length c.as_slice.ensures in
    c.settled-from.ensures.none n (omega (arith, c.if-from-as_slice.true)) r
