use Rattle.std.proofs.Common.{◌≡◌, ◌+◌, take, map}
use Rattle.std.specs.Prelude.{slice_index}
use Rattle.serial_pass.specs.declared.plan.PlanEdge.{PlanEdge}
use Rattle.serial_pass.specs.Results.{node_result}
use Rattle.ready_counters.specs.Seen.{view_of, IsSeatOf}
use Rattle.visit_workers.specs.Settled.{IsGathering, outcomes}
use Rattle.visit_workers.proofs.node.gather.Given as goal

abbrev pub invariant-loop-edge : goal.invariant-loop-edge
invariant-loop-edge g l = record {
  counted : l.e ≡ slice_index l.pass.starts.now l.fn.n.0 + l._edge-index;
  seat : IsSeatOf l.pass.board.now l.seat;
  gathering : IsGathering (slice_index l.pass.starts.now l.fn.n.0) l.e (view_of l.fn.seat) (view_of l.seat);
  values : outcomes l.fetched.items ≡ map
      (λ (d : PlanEdge). node_result (g.V.Visit.meaning l.pass.visitor.now) l.pass.plan.now d.from.0)
      (take l._edge-index l.edges);
}
