use Rattle.std.proofs.Common.{◌≡◌, ◌<◌, ◌≤◌, ℕ, length}
use Rattle.std.specs.Prelude.{slice_index}
use Rattle.serial_pass.specs.Orders.{numbers}
use Rattle.ready_counters.specs.Views.{times}
use Rattle.ready_counters.specs.Seen.{view_of, IsSeatOf}
use Rattle.visit_workers.specs.Making.{IsWorking}
use Rattle.visit_workers.proofs.work.sweep.Given as goal

abbrev pub invariant-loop-n : goal.invariant-loop-n
invariant-loop-n g l = record {
  seat : IsSeatOf l.pass.board.now l.seat;
  weight : (view_of l.seat).weight ≡ (view_of l.fn.seat).weight;
  working : IsWorking (g.V.Visit.meaning l.pass.visitor.now) l.pass.plan.now (view_of l.seat) l.made.items;
  claimed : (i : ℕ) → i < l.n-index → i < length (numbers l.order)
      → 1 ≤ times (slice_index (numbers l.order) i) (view_of l.seat).claimed;
}
