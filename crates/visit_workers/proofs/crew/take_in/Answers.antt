use Rattle.std.proofs.Common.{◌∙◌, ap, sym, subst}
use Rattle.ready_counters.specs.Seen.{view_of}
use Rattle.visit_workers.specs.Making.{IsWorking}
use Rattle.visit_workers.proofs.Making.{working_both}
use Rattle.visit_workers.proofs.crew.take_in.Goals as goal

pub returns-clause-working : goal.returns-clause-working
returns-clause-working g c =
    let q = c.into_parts-theirs.ensures in let r = c.into_parts-theirs.result in
    working_both (g.V.Visit.meaning c.args.pass.now.visitor.now) c.args.pass.now.plan.now (view_of c.args.seat.now)
    (view_of r.0) (view_of c.join.new.seat) c.args.made.now.items r.1.items c.append.new.made.items
    c.join.ensures.both c.in_ok-append.ensures c.requires.working
    (subst (λ x. IsWorking (g.V.Visit.meaning c.args.pass.now.visitor.now) c.args.pass.now.plan.now
    (view_of x.0) x.1.items) (sym q) (c.requires.other_working (sym (ap (λ x. x.2) q) ∙ c.if-failed.false)))
