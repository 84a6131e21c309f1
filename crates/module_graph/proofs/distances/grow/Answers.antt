use Rattle.std.proofs.Common.{◌≡◌, ◌+◌, ◌<◌, ℕ, List, [], length, take, get_or, arith, sym, subst, ◌∙◌, take_all}
use Rattle.std.specs.Prelude.{slice_index}
use Rattle.std.specs.List.{AllByRecursion}
use Rattle.serial_pass.specs.declared.plan.PlanEdge.{PlanEdge}
use Rattle.serial_pass.specs.Plans.{in_edges}
use Rattle.module_graph.specs.Search.{BeginWithin, IsGiven, IsGrowing}
use Rattle.module_graph.proofs.Levels.{edge_done, node_done, from_inside, as_many, all_next}
use Rattle.module_graph.proofs.distances.grow.Goals as goal

abbrev no_edge : PlanEdge
no_edge = record { from = record { 0 = 0 }; to = record { 0 = 0 } }

-- where the j-th edge into a node begins
source_inside : (count node j : ℕ) (edges es : List PlanEdge) → es ≡ in_edges edges node
    → AllByRecursion (λ (e : PlanEdge). (e.from.0 < count) × (e.to.0 < count)) edges → j < length es
    → (get_or es j no_edge).from.0 < count
source_inside count node j edges es is ends =
    subst (λ (l : List PlanEdge). j < length l → (get_or l j no_edge).from.0 < count) (sym is)
    (λ lt. from_inside count node j edges no_edge ends lt)

pub give-requires : goal.give-requires
give-requires c =
    let inside = source_inside c.args.plan.now.count
    (slice_index c.args.front.now c.loop-n.n-index) c.loop-edge.edge-index c.args.plan.now.edges
    c.edges_into-edge-items.result.now c.edges_into-edge-items.ensures c.requires.plan.ends c.loop-edge-test.true in
    omega arith

pub loop-edge-preserved : goal.loop-edge-preserved
loop-edge-preserved c =
    let node = slice_index c.args.front.now c.loop-n.n-index in
    let j = c.loop-edge.edge-index in
    let m : ℕ = (get_or c.edges_into-edge-items.result.now j no_edge).from.0 in
    let inside : m < c.args.plan.now.count = source_inside c.args.plan.now.count node j c.args.plan.now.edges
    c.edges_into-edge-items.result.now c.edges_into-edge-items.ensures c.requires.plan.ends c.loop-edge-test.true in
    let here : m < length c.loop-edge.found = omega arith in
    let done =
    λ (s : ℕ) (grown : IsGrowing c.args.plan.now.edges s c.args.level c.args.front.now 0 c.args.found.now []).
    let so_far = c.loop-edge.invariant.0 s grown in
    subst (λ (l : List PlanEdge). j < length l → (get_or l j no_edge).from.0 < length c.loop-edge.found
    → BeginWithin (take j l) c.args.level c.loop-edge.found
    → IsGiven (get_or l j no_edge).from.0 c.args.level c.loop-edge.found c.loop-edge.next.items c.give.new.found
    c.give.new.next.items
    → IsGrowing c.args.plan.now.edges s c.args.level c.args.front.now c.loop-n.n-index c.give.new.found
    c.give.new.next.items
    × BeginWithin (take (j + 1) l) c.args.level c.give.new.found) (sym c.edges_into-edge-items.ensures)
    (λ lj inside part given. edge_done c.args.plan.now.edges s c.args.level c.args.front.now c.loop-n.n-index
    c.loop-edge.found c.loop-edge.next.items so_far.0 c.loop-n-test.true j no_edge c.give.new.found
    c.give.new.next.items lj inside part given)
    c.loop-edge-test.true here so_far.1 c.in_ok-give.ensures in (
      done,
      as_many m c.args.level c.loop-edge.found c.loop-edge.next.items c.give.new.found c.give.new.next.items here
          c.in_ok-give.ensures
          ∙ c.loop-edge.invariant.1,
      all_next m c.args.level c.loop-edge.found c.loop-edge.next.items c.give.new.found c.give.new.next.items here
          c.in_ok-give.ensures (λ n. n < c.args.plan.now.count) inside c.loop-edge.invariant.2,
    )

pub loop-n-preserved : goal.loop-n-preserved
loop-n-preserved c = (
  λ s grown.
      let so_far = c.loop-edge.invariant.0 s grown in
      let part = subst (λ (l : List PlanEdge). BeginWithin l c.args.level c.loop-edge.found)
      (take_all c.loop-edge.edge-index c.edges_into-edge-items.result.now c.loop-edge-test.false
      ∙ c.edges_into-edge-items.ensures) so_far.1 in
      node_done c.args.plan.now.edges s c.args.level c.args.front.now c.loop-n.n-index c.loop-edge.found
      c.loop-edge.next.items so_far.0 c.loop-n-test.true part,
  c.loop-edge.invariant.1,
  c.loop-edge.invariant.2,
)
