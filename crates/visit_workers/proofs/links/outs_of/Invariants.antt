use Rattle.std.proofs.Common.{◌≤◌, length}
use Rattle.visit_workers.proofs.Listing.{FromEdge}
use Rattle.visit_workers.proofs.links.outs_of.Given as goal

abbrev pub invariant-loop-e : goal.invariant-loop-e
invariant-loop-e l = record {
  below : l.e ≤ length l.plan.edges;
  from : FromEdge l.plan.count l.plan.edges l.e l.first.items l.next.items;
}

abbrev pub decreases-loop-e : goal.decreases-loop-e
decreases-loop-e l = l.e
