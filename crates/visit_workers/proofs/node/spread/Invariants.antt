use Rattle.std.proofs.Common.{◌≡◌, ◌++◌, ◌-◌, List, ℕ}
use Rattle.ready_counters.specs.Seen.{view_of, IsSeatOf}
use Rattle.visit_workers.specs.Links.{numbers_from, IsChain}
use Rattle.visit_workers.specs.Settled.{IsSpreading}
use Rattle.visit_workers.proofs.node.spread.Given as goal

abbrev pub invariant-loop-e : goal.invariant-loop-e
invariant-loop-e g l = (done : List ℕ) × (rest : List ℕ)
    × (done ++ rest ≡ numbers_from 0 l.pass.plan.now.edges l.fn.n.0) × IsChain l.pass.outs.now.next.items l.e rest
    × IsSeatOf l.pass.board.now l.seat × IsSpreading done (view_of l.fn.seat) (view_of l.seat)

abbrev pub decreases-loop-e : goal.decreases-loop-e
decreases-loop-e g l = 4294967295 - l.e
