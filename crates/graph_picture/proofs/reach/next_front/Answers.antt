use Rattle.std.proofs.Common.{ℕ, List, Contains, arith, subst}
use Rattle.bp_faults.proofs.Lists.{same_at}
use Rattle.graph_picture.proofs.Growth.{next_more}
use Rattle.graph_picture.proofs.reach.next_front.Goals as goal

pub mark_all-requires : goal.mark_all-requires
mark_all-requires c = λ n h.
    let here = subst (λ (l : List ℕ). Contains l n) c.list_of.ensures h in
    omega (arith, c.requires _ n here)

pub loop-n-preserved : goal.loop-n-preserved
loop-n-preserved c =
    let front = c.args.front.now in
    let i = c.loop-n.n-index in
    let lt = c.loop-n-test.true in
    next_more c.args.lists.now front i _ lt (same_at front i 0 _ lt) c.list_of.result.now c.list_of.ensures _ _ _ _ _ _
    c.loop-n.invariant c.in_ok-mark_all.ensures
