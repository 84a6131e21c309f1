use Rattle.std.proofs.Common.{◌∙◌, ◌∷◌, refl, sym, subst}
use Rattle.serial_pass.specs.declared.plan.Plan.{Plan}
use Rattle.ready_counters.specs.declared.claim.Claim.{Claim}
use Rattle.ready_counters.specs.Answers.{AnswersClaim}
use Rattle.std.proofs.Common.{ap}
use Rattle.serial_pass.specs.Results.{node_result}
use Rattle.ready_counters.specs.Seen.{view_of}
use Rattle.visit_workers.specs.Making.{IsMadeBy}
use Rattle.visit_workers.proofs.Sweeping.{reaches_waiting}
use Rattle.visit_workers.proofs.Making.{made_more}
use Rattle.visit_workers.proofs.attempt.attempt.Goals as goal

pub returns-in-NotReady-clause-reaches : goal.returns-in-NotReady-clause-reaches
returns-in-NotReady-clause-reaches g c =
    reaches_waiting c.args.pass.now.plan.now.edges c.args.n.0 (view_of c.args.seat.now)
    (view_of c.claim.new.seat) c.requires.working.settled c.in-NotReady.field-0
    (subst (λ (p : Plan). AnswersClaim p.edges c.args.n.0 (view_of c.args.seat.now)
    (Claim.NotReady c.in-NotReady.field-0) (view_of c.claim.new.seat))
    (sym c.requires.pass.board_plan) c.in-NotReady.ensures.told)

pub returns-in_ok-push-in-Claimed-clause-working : goal.returns-in_ok-push-in-Claimed-clause-working
returns-in_ok-push-in-Claimed-clause-working g c =
    let done = c.in_ok-done-in-Claimed.done in let e = c.in_ok-done-in-Claimed.ensures in record {
      settled = e.settled;
      made_by = subst (λ ms. IsMadeBy c.args.pass.now.plan.now.count
          (node_result (g.V.Visit.meaning c.args.pass.now.visitor.now) c.args.pass.now.plan.now)
          (view_of c.visit_claimed.new.seat).tickets ms) (sym c.in_ok-push-in-Claimed.ensures.items)
          (made_more c.args.pass.now.plan.now.count
          (node_result (g.V.Visit.meaning c.args.pass.now.visitor.now) c.args.pass.now.plan.now) c.args.n.0
          done.ticket (view_of c.args.seat.now).tickets (view_of c.visit_claimed.new.seat).tickets
          c.args.made.now.items done
          (e.tickets ∙ ap (λ ts. (c.args.n.0, done.ticket) ∷ ts) (ap (λ v. v.tickets) c.in-Claimed.ensures.told.0))
          (ap (λ m. m.0) e.made) refl e.right c.requires.working.made_by);
    }
