use Rattle.std.proofs.Common.{◌≡◌, ◌+◌, [], length}
use Rattle.std.specs.Prelude.{All}
use Rattle.ready_counters.specs.Views.{whole}
use Rattle.ready_counters.specs.Seen.{view_of, IsSeatOf}
use Rattle.visit_workers.specs.Making.{IsWorking}
use Rattle.visit_workers.proofs.dealing.tasks_of.Given as goal

abbrev pub invariant-loop-hints : goal.invariant-loop-hints
invariant-loop-hints g l = record {
  seat : IsSeatOf l.pass.board.now l.seat;
  many : length l.tasks.items ≡ length l.yielded;
  weight : (view_of l.seat).weight + length l.tasks.items ≡ whole;
  working : IsWorking (g.V.Visit.meaning l.pass.visitor.now) l.pass.plan.now (view_of l.seat) [];
  seats : All (λ t. IsSeatOf l.pass.board.now t.seat) l.tasks.items;
  light : All (λ t. (view_of t.seat).weight ≡ 1) l.tasks.items;
  works : All (λ t. IsWorking (g.V.Visit.meaning l.pass.visitor.now) l.pass.plan.now (view_of t.seat) t.made.items)
      l.tasks.items;
}
