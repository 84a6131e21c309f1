use Rattle.std.proofs.Common.{◌≡◌}
use Rattle.ready_counters.specs.Seen.{view_of, IsSeatOf}
use Rattle.visit_workers.specs.Making.{IsWorking}
use Rattle.visit_workers.proofs.work.work.Given as goal

abbrev pub invariant-loop-turn : goal.invariant-loop-turn
invariant-loop-turn g l = record {
  seat : IsSeatOf l.pass.board.now l.seat;
  weight : (view_of l.seat).weight ≡ (view_of l.fn.seat).weight;
  working : IsWorking (g.V.Visit.meaning l.pass.visitor.now) l.pass.plan.now (view_of l.seat) l.made.items;
}
