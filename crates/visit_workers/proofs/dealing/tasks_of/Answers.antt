use Rattle.std.proofs.Common.{◌≡◌, ◌+◌, ◌∙◌, [], ap, sym, subst, arith, length}
use Rattle.ready_counters.specs.Views.{lighter, one}
use Rattle.ready_counters.specs.Seen.{view_of, IsSeatOf}
use Rattle.visit_workers.specs.Making.{IsWorking}
use Rattle.visit_workers.proofs.Listing.{grown, pushed_all}
use Rattle.visit_workers.proofs.Making.{working_same, working_one, working_lighter}
use Rattle.visit_workers.proofs.dealing.tasks_of.Goals as goal

pub loop-hints-preserved : goal.loop-hints-preserved
loop-hints-preserved g c =
    let more = ap length c.in_ok-push.ensures.items ∙ grown c.loop-hints.tasks.items _ in
    record {
      seat = c.split.ensures.seat;
      many = more ∙ ap (λ k. k + 1) c.loop-hints.invariant.many ∙ sym (grown c.loop-hints.yielded c.in-Some.hints);
      weight = let e = ap (λ v. v.weight) c.split.ensures.left in let live = c.loop-hints.seat.live in
          let h = c.loop-hints.invariant.weight in omega (arith, more);
      working = working_same (g.V.Visit.meaning c.args.pass.now.visitor.now) c.args.pass.now.plan.now
          (lighter (view_of c.loop-hints.seat)) (view_of c.split.new.seat) [] c.split.ensures.left
          (working_lighter (g.V.Visit.meaning c.args.pass.now.visitor.now) c.args.pass.now.plan.now
          (view_of c.loop-hints.seat) [] c.loop-hints.invariant.working);
      seats = pushed_all c.loop-hints.tasks.items c.push.new.self.items _ c.in_ok-push.ensures.items
          (λ t. IsSeatOf c.args.pass.now.board.now t.seat) c.loop-hints.invariant.seats c.split.ensures.other;
      light = pushed_all c.loop-hints.tasks.items c.push.new.self.items _ c.in_ok-push.ensures.items
          (λ t. (view_of t.seat).weight ≡ 1) c.loop-hints.invariant.light (ap (λ v. v.weight) c.split.ensures.right);
      works = pushed_all c.loop-hints.tasks.items c.push.new.self.items _ c.in_ok-push.ensures.items
          (λ t. IsWorking (g.V.Visit.meaning c.args.pass.now.visitor.now) c.args.pass.now.plan.now
          (view_of t.seat) t.made.items) c.loop-hints.invariant.works
          (subst (λ l. IsWorking (g.V.Visit.meaning c.args.pass.now.visitor.now) c.args.pass.now.plan.now
          (view_of c.split.result) l) (sym c.new.ensures.items)
          (working_same (g.V.Visit.meaning c.args.pass.now.visitor.now) c.args.pass.now.plan.now one
          (view_of c.split.result) [] c.split.ensures.right
          (working_one (g.V.Visit.meaning c.args.pass.now.visitor.now) c.args.pass.now.plan.now)));
    }
