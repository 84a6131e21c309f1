use Rattle.std.proofs.Common.{◌≡◌, ◌+◌, length}
use Rattle.ready_counters.specs.Seen.{view_of, IsSeatOf}
use Rattle.visit_workers.specs.Making.{IsWorking}
use Rattle.visit_workers.proofs.crew.join_all.Given as goal

abbrev pub invariant-loop-task : goal.invariant-loop-task
invariant-loop-task g l = record {
  seat : IsSeatOf l.pass.board.now l.seat;
  weight : (view_of l.seat).weight ≡ (view_of l.fn.seat).weight + length l.yielded;
  working : IsWorking (g.V.Visit.meaning l.pass.visitor.now) l.pass.plan.now (view_of l.seat) l.made.items;
}
