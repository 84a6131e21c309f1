use Rattle.std.proofs.Common.{◌≡◌, ◌<◌, ◌≤◌, ◌+◌, ◌∙◌, [], ◌∷◌, ap, sym, subst, arith, rules, length, map}
use Rattle.std.specs.Prelude.{slice_index}
use Rattle.std.specs.Arc.{arc_value}
use Rattle.std.proofs.lemmas.List.{map-append}
use Rattle.serial_pass.specs.declared.plan.Plan.{Plan}
use Rattle.serial_pass.specs.declared.plan.PlanEdge.{PlanEdge}
use Rattle.serial_pass.specs.Results.{node_result}
use Rattle.pass_core.specs.Shown.{published_result}
use Rattle.bp_faults.proofs.Lists.{take-past}
use Rattle.ready_counters.specs.Edges.{edge_target, result_at}
use Rattle.ready_counters.specs.Views.{times}
use Rattle.ready_counters.specs.Seen.{plan_on_board, view_of}
use Rattle.visit_workers.specs.Settled.{IsGathering, outcomes}
use Rattle.visit_workers.proofs.Gathered.{into_at, all_into, range, mapped, mapped_more}
use Rattle.visit_workers.proofs.Settling.{gathering_more}
use Rattle.visit_workers.proofs.node.gather.Goals as goal

abbrev blank : PlanEdge
blank = record { from = record { 0 = 0 }; to = record { 0 = 0 } }

pub fetch-shared-requires-clause-edge : goal.fetch-shared-requires-clause-edge
fetch-shared-requires-clause-edge g c =
    let at = into_at c.in_edges_are_together.ensures c.starts_of_edges_rise.ensures c.indices_tell_targets.ensures
    c.args.pass.now.plan.now c.requires.pass.is_plan c.args.pass.now.starts.now c.requires.pass.starts c.args.n.0
    c.requires.inside c.edges_into-edges.result.now c.loop-edge._edge-index c.loop-edge.e blank
    c.edges_into-edges.ensures c.loop-edge-test.true c.loop-edge.invariant.counted in
    subst (λ (q : Plan). c.loop-edge.e < length q.edges) c.requires.pass.board_plan at.0

pub fetch-shared-requires-clause-claimed : goal.fetch-shared-requires-clause-claimed
fetch-shared-requires-clause-claimed g c =
    let at = into_at c.in_edges_are_together.ensures c.starts_of_edges_rise.ensures c.indices_tell_targets.ensures
    c.args.pass.now.plan.now c.requires.pass.is_plan c.args.pass.now.starts.now c.requires.pass.starts c.args.n.0
    c.requires.inside c.edges_into-edges.result.now c.loop-edge._edge-index c.loop-edge.e blank
    c.edges_into-edges.ensures c.loop-edge-test.true c.loop-edge.invariant.counted in
    let to = (range c.in_edges_are_together.ensures c.starts_of_edges_rise.ensures c.indices_tell_targets.ensures
    c.args.pass.now.plan.now c.requires.pass.is_plan c.args.pass.now.starts.now c.requires.pass.starts c.args.n.0
    c.requires.inside c.loop-edge.e blank at.0).0 (let h = c.loop-edge.invariant.counted in omega arith) at.1 in
    let mine : 1 ≤ times c.args.n.0 (view_of c.loop-edge.seat).claimed = let h = c.requires.claimed in
    let same = ap (times c.args.n.0) c.loop-edge.invariant.gathering.claimed in omega arith in
    subst (λ (q : Plan). 1 ≤ times (edge_target q.edges c.loop-edge.e) (view_of c.loop-edge.seat).claimed)
    c.requires.pass.board_plan (subst (λ x. 1 ≤ times x (view_of c.loop-edge.seat).claimed) (sym to) mine)

pub fetch-shared-requires-clause-fresh : goal.fetch-shared-requires-clause-fresh
fetch-shared-requires-clause-fresh g c =
    let at = into_at c.in_edges_are_together.ensures c.starts_of_edges_rise.ensures c.indices_tell_targets.ensures
    c.args.pass.now.plan.now c.requires.pass.is_plan c.args.pass.now.starts.now c.requires.pass.starts c.args.n.0
    c.requires.inside c.edges_into-edges.result.now c.loop-edge._edge-index c.loop-edge.e blank
    c.edges_into-edges.ensures c.loop-edge-test.true c.loop-edge.invariant.counted in
    let to = (range c.in_edges_are_together.ensures c.starts_of_edges_rise.ensures c.indices_tell_targets.ensures
    c.args.pass.now.plan.now c.requires.pass.is_plan c.args.pass.now.starts.now c.requires.pass.starts c.args.n.0
    c.requires.inside c.loop-edge.e blank at.0).0 (let h = c.loop-edge.invariant.counted in omega arith) at.1 in
    c.loop-edge.invariant.gathering.rest c.loop-edge.e (omega arith) ∙ c.requires.fresh c.loop-edge.e at.0 to

pub overflow_add-e : goal.overflow_add-e
overflow_add-e g c =
    let at = into_at c.in_edges_are_together.ensures c.starts_of_edges_rise.ensures c.indices_tell_targets.ensures
    c.args.pass.now.plan.now c.requires.pass.is_plan c.args.pass.now.starts.now c.requires.pass.starts c.args.n.0
    c.requires.inside c.edges_into-edges.result.now c.loop-edge._edge-index c.loop-edge.e blank
    c.edges_into-edges.ensures c.loop-edge-test.true c.loop-edge.invariant.counted in
    let few = c.requires.pass.is_plan.few in let inside = at.0 in
    let k : c.loop-edge.e + 1 < 4294967296 = omega arith in search (rules, k)

pub loop-edge-preserved : goal.loop-edge-preserved
loop-edge-preserved g c =
    let at = into_at c.in_edges_are_together.ensures c.starts_of_edges_rise.ensures c.indices_tell_targets.ensures
    c.args.pass.now.plan.now c.requires.pass.is_plan c.args.pass.now.starts.now c.requires.pass.starts c.args.n.0
    c.requires.inside c.edges_into-edges.result.now c.loop-edge._edge-index c.loop-edge.e blank
    c.edges_into-edges.ensures c.loop-edge-test.true c.loop-edge.invariant.counted in
    record {
      counted = let h = c.loop-edge.invariant.counted in omega arith;
      seat = c.fetch-shared.ensures.seat;
      gathering = gathering_more (slice_index c.args.pass.now.starts.now c.args.n.0) c.loop-edge.e
          (view_of c.args.seat.now) (view_of c.loop-edge.seat) (view_of c.fetch-shared.new.seat)
          (let h = c.loop-edge.invariant.counted in omega arith) c.fetch-shared.ensures.fetched
          c.loop-edge.invariant.gathering;
      values = ap outcomes c.in_ok-push.ensures.items
          ∙ map-append (λ a. published_result (arc_value a)) c.loop-edge.fetched.items (c.fetch-shared.result ∷ [])
          ∙ mapped_more (node_result (g.V.Visit.meaning c.args.pass.now.visitor.now) c.args.pass.now.plan.now)
          c.edges_into-edges.result.now c.loop-edge._edge-index c.loop-edge.e blank
          (outcomes c.loop-edge.fetched.items) (published_result (arc_value c.fetch-shared.result))
          c.loop-edge-test.true c.loop-edge.invariant.values
          (c.fetch-shared.ensures.value
          ∙ ap (λ w. result_at (g.V.Visit.meaning w) (plan_on_board c.args.pass.now.board.now) c.loop-edge.e)
          (sym c.requires.pass.board_visitor)
          ∙ ap (λ (q : Plan). result_at (g.V.Visit.meaning c.args.pass.now.visitor.now) q c.loop-edge.e)
          (sym c.requires.pass.board_plan)
          ∙ ap (node_result (g.V.Visit.meaning c.args.pass.now.visitor.now) c.args.pass.now.plan.now) (sym at.2));
    }

pub returns-clause-gathered : goal.returns-clause-gathered
returns-clause-gathered g c =
    let index : c.loop-edge._edge-index ≡ length c.edges_into-edges.result.now = let a =
    c.loop-edge.auto._edge-index-end in let b = c.loop-edge-test.false in omega arith in
    subst (λ k. IsGathering (slice_index c.args.pass.now.starts.now c.args.n.0) k (view_of c.args.seat.now)
    (view_of c.loop-edge.seat))
    (all_into c.in_edges_are_together.ensures c.starts_of_edges_rise.ensures c.indices_tell_targets.ensures
    c.args.pass.now.plan.now c.requires.pass.is_plan c.args.pass.now.starts.now c.requires.pass.starts c.args.n.0
    c.requires.inside c.edges_into-edges.result.now c.loop-edge._edge-index c.loop-edge.e
    c.edges_into-edges.ensures index c.loop-edge.invariant.counted)
    c.loop-edge.invariant.gathering

pub returns-clause-values : goal.returns-clause-values
returns-clause-values g c =
    let past : length c.edges_into-edges.result.now ≤ c.loop-edge._edge-index = let b = c.loop-edge-test.false in
    omega arith in
    c.loop-edge.invariant.values
    ∙ ap (map (λ (d : PlanEdge). node_result (g.V.Visit.meaning c.args.pass.now.visitor.now) c.args.pass.now.plan.now
    d.from.0)) (take-past c.loop-edge._edge-index c.edges_into-edges.result.now past ∙ c.edges_into-edges.ensures)
    ∙ mapped (node_result (g.V.Visit.meaning c.args.pass.now.visitor.now) c.args.pass.now.plan.now)
    (Rattle.serial_pass.specs.Plans.in_edges c.args.pass.now.plan.now.edges c.args.n.0)
