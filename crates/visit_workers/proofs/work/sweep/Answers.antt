use Rattle.std.proofs.Common.{◌<◌, ◌∙◌, sym, subst, arith}
use Rattle.serial_pass.specs.Orders.{numbers}
use Rattle.ready_counters.specs.Seen.{view_of}
use Rattle.visit_workers.specs.Settled.{Reaches}
use Rattle.visit_workers.proofs.Sweeping.{swept_all, swept_more, entry_inside, number_at, many_numbers}
use Rattle.visit_workers.proofs.work.sweep.Goals as goal

pub attempt-requires-clause-inside : goal.attempt-requires-clause-inside
attempt-requires-clause-inside g c =
    entry_inside c.args.pass.now.plan.now c.args.order.now c.requires.legal c.loop-n.n-index c.loop-n-test.true

pub loop-n-preserved : goal.loop-n-preserved
loop-n-preserved g c = record {
  seat = c.attempt.ensures.seat;
  weight = c.attempt.ensures.weight ∙ c.loop-n.invariant.weight;
  working = c.in_ok-attempt.ensures.working;
  claimed = swept_more c.args.pass.now.plan.now (numbers c.args.order.now) c.requires.legal c.loop-n.n-index
      (view_of c.loop-n.seat) (view_of c.attempt.new.seat)
      (subst (λ k. c.loop-n.n-index < k) (sym (many_numbers c.args.order.now)) c.loop-n-test.true)
      (c.loop-n.invariant.weight ∙ c.requires.all) c.loop-n.invariant.claimed
      (subst (λ x. Reaches c.args.pass.now.plan.now.edges x (view_of c.loop-n.seat) (view_of c.attempt.new.seat))
      (sym (number_at c.args.order.now c.loop-n.n-index)) c.in_ok-attempt.ensures.reaches);
}

pub returns-clause-claimed : goal.returns-clause-claimed
returns-clause-claimed g c =
    swept_all c.args.pass.now.plan.now (numbers c.args.order.now) c.requires.legal c.loop-n.n-index
    (view_of c.loop-n.seat)
    (let m = many_numbers c.args.order.now in let f = c.loop-n-test.false in omega arith) c.loop-n.invariant.claimed
