use Rattle.std.proofs.Common.{◌≡◌, ◌<◌, ◌≤◌, ◌+◌, ℕ, subst, arith, length}
use Rattle.std.specs.Prelude.{slice_index}
use Rattle.serial_pass.specs.declared.plan.Plan.{Plan}
use Rattle.serial_pass.specs.declared.plan.PlanEdge.{PlanEdge}
use Rattle.ready_counters.specs.declared.view.View.{View}
use Rattle.ready_counters.specs.Edges.{edge_target}
use Rattle.ready_counters.specs.Views.{times}
use Rattle.ready_counters.specs.Seen.{view_of}
use Rattle.visit_workers.specs.Links.{numbers_from}
use Rattle.visit_workers.specs.Settled.{IsGathering, IsSpreading}
use Rattle.visit_workers.proofs.Gathered.{range}
use Rattle.visit_workers.proofs.Settling.{settled_more}
use Rattle.visit_workers.proofs.attempt.visit_claimed.Goals as goal

abbrev blank : PlanEdge
blank = record { from = record { 0 = 0 }; to = record { 0 = 0 } }

pub ticket-ticket-requires-clause-ready : goal.ticket-ticket-requires-clause-ready
ticket-ticket-requires-clause-ready g c =
    subst (λ (q : Plan). (e : ℕ) → e < length q.edges → edge_target q.edges e ≡ c.args.n.0
    → 1 ≤ times e (view_of c.gather.new.seat).fetched) c.requires.pass.board_plan
    (λ e l to. let r = (range c.in_edges_are_together.ensures c.starts_of_edges_rise.ensures
    c.indices_tell_targets.ensures c.args.pass.now.plan.now c.requires.pass.is_plan c.args.pass.now.starts.now
    c.requires.pass.starts c.args.n.0 c.requires.inside e blank l).1 to in
    let d = c.in_ok-gather.ensures.gathered.done e r.0 r.1 in omega arith)

pub returns-clause-settled : goal.returns-clause-settled
returns-clause-settled g c =
    let j = c.requires.claimed in
    settled_more c.args.pass.now.plan.now.edges c.args.n.0 c.ticket-ticket.result
    (slice_index c.args.pass.now.starts.now c.args.n.0) (slice_index c.args.pass.now.starts.now (c.args.n.0 + 1))
    j.0 (view_of c.gather.new.seat) (view_of c.spread.new.seat) j.1
    (λ e l. range c.in_edges_are_together.ensures c.starts_of_edges_rise.ensures c.indices_tell_targets.ensures
    c.args.pass.now.plan.now c.requires.pass.is_plan c.args.pass.now.starts.now c.requires.pass.starts c.args.n.0
    c.requires.inside e blank l)
    (subst (λ (u : View). IsGathering (slice_index c.args.pass.now.starts.now c.args.n.0)
    (slice_index c.args.pass.now.starts.now (c.args.n.0 + 1)) u (view_of c.gather.new.seat)) j.2
    c.in_ok-gather.ensures.gathered)
    (subst (λ (u : View). IsSpreading (numbers_from 0 c.args.pass.now.plan.now.edges c.args.n.0) u
    (view_of c.spread.new.seat)) c.ticket-ticket.ensures.drawn c.in_ok-spread.ensures.spread)
