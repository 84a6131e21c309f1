use Rattle.std.proofs.Common.{◌≡◌, ◌∙◌, ◌<◌, List, length, ap, subst, arith, Some, None, below_more}
use Rattle.serial_pass.specs.declared.plan.Plan.{Plan}
use Rattle.serial_pass.specs.declared.plan.PlanEdge.{PlanEdge}
use Rattle.module_graph.specs.Graphs.{edges_of}
use Rattle.module_graph.specs.Walks.{Returns}
use Rattle.module_graph.specs.Search.{AreDistances, IsNearestFound}
use Rattle.module_graph.proofs.Alls.{edges_of_ends}
use Rattle.module_graph.proofs.Starting.{distances_unsorted, near_read, goes_back, goes_nowhere, returning_inside}
use Rattle.module_graph.proofs.start.find_start.Goals as goal

pub returns-in-Some : goal.returns-in-Some
returns-in-Some g c =
    let nodes = c.args.g.now.nodes in
    let n = c.loop-n.n in
    let found = c.in_ok-found.found.items in
    let many : c.in_ok-plan.plan.count ≡ length nodes = ap (λ (p : Plan). p.count) c.in_ok-plan.ensures.exact in
    let lt : n < length nodes = omega arith in
    let are = distances_unsorted (length nodes) (edges_of nodes) (edges_of_ends nodes c.requires.numbered.ends) n found
    (subst (λ (es : List PlanEdge). AreDistances es n found)
    (ap (λ (p : Plan). p.edges) c.in_ok-plan.ensures.exact) c.in_ok-found.ensures.exact) in
    let near = near_read nodes c.as_slice.result.now n c.index-as_slice-n.result c.as_slice-edges.result.now found
    c.deref-in-loop-n.result.now (Some c.in-Some.first) lt c.as_slice.ensures c.as_slice-edges.ensures
    c.deref-in-loop-n.ensures.value c.in-Some.ensures in (
      lt,
      record { returns = goes_back nodes n found are c.in-Some.first near; least = c.loop-n.invariant },
      c.in_ok-found.ensures.many ∙ many,
      are,
      near,
    )

pub loop-n-preserved : goal.loop-n-preserved
loop-n-preserved g c =
    let nodes = c.args.g.now.nodes in
    let n = c.loop-n.n in
    let found = c.in_ok-found.found.items in
    let many : c.in_ok-plan.plan.count ≡ length nodes = ap (λ (p : Plan). p.count) c.in_ok-plan.ensures.exact in
    let lt : n < length nodes = omega arith in
    let are = distances_unsorted (length nodes) (edges_of nodes) (edges_of_ends nodes c.requires.numbered.ends) n found
    (subst (λ (es : List PlanEdge). AreDistances es n found)
    (ap (λ (p : Plan). p.edges) c.in_ok-plan.ensures.exact) c.in_ok-found.ensures.exact) in
    let none = near_read nodes c.as_slice.result.now n c.index-as_slice-n.result c.as_slice-edges.result.now found
    c.deref-in-loop-n.result.now None lt c.as_slice.ensures c.as_slice-edges.ensures c.deref-in-loop-n.ensures.value
    (subst (IsNearestFound c.deref-in-loop-n.result.now c.as_slice-edges.result.now) c.in_default.is
    c.nearest.ensures) in
    below_more (λ m. Returns (edges_of nodes) m → ⊥) n c.loop-n.invariant (goes_nowhere nodes n found are none)

pub returns : goal.returns
returns g c = λ n r.
    let many : c.in_ok-plan.plan.count ≡ length c.args.g.now.nodes =
    ap (λ (p : Plan). p.count) c.in_ok-plan.ensures.exact in
    let inside = returning_inside c.args.g.now.nodes c.requires.numbered.ends n r in
    c.loop-n.invariant n (omega (arith, c.loop-n-test.false)) r
