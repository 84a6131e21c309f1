use Rattle.std.proofs.Common.{arith}
use Rattle.serial_pass.specs.declared.plan.PlanEdge.{PlanEdge}
use Rattle.visit_workers.proofs.Listing.{one_more_as}
use Rattle.visit_workers.proofs.links.outs_of.Goals as goal

abbrev blank : PlanEdge
blank = record { from = record { 0 = 0 }; to = record { 0 = 0 } }

pub loop-e-preserved : goal.loop-e-preserved
loop-e-preserved c =
    let h = c.loop-e.invariant in let some = c.loop-e-test.true in let below = h.below in record {
      below = omega arith;
      from = one_more_as c.args.plan.now.count c.args.plan.now.edges c.as_slice-edges.result.now c.loop-e.e
          c.index.result.now blank c.loop-e.first.items c.loop-e.next.items c.as_slice-edges.ensures c.requires.ends
          c.requires.few some below c.index.ensures h.from;
    }
