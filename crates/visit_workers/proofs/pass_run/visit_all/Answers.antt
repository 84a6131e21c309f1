use Rattle.std.proofs.Common.{◌∙◌, sym, subst}
use Rattle.serial_pass.specs.declared.plan.Plan.{Plan}
use Rattle.serial_pass.specs.Orders.{numbers}
use Rattle.ready_counters.specs.Ends.{IsByTicket}
use Rattle.ready_counters.specs.Seen.{view_of}
use Rattle.visit_workers.proofs.Making.{by_tickets}
use Rattle.visit_workers.proofs.Sweeping.{many_numbers}
use Rattle.visit_workers.proofs.pass_run.visit_all.Goals as goal

pub close-receipt-requires-clause-order : goal.close-receipt-requires-clause-order
close-receipt-requires-clause-order g c =
    subst (λ (p : Plan). IsByTicket p.count (view_of c.visit_each.new.seat) (numbers c.in_ok-ticketed.ticketed.items))
    (sym c.in_ok-board.ensures.plan) (
      many_numbers c.in_ok-ticketed.ticketed.items ∙ c.in_ok-ticketed.ensures.many,
      by_tickets (g.V.Visit.meaning c.args.v.now) c.args.plan.now
          (view_of c.visit_each.new.seat) c.in_ok-made.made.items
          c.deref-2.result.now c.deref-2.ensures.value c.in_ok-made.ensures.working c.visit_each.new.seat.single
          c.in_ok-made.ensures.each (numbers c.in_ok-ticketed.ticketed.items) c.in_ok-ticketed.ensures.placed,
    )
