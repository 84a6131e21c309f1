use Rattle.std.proofs.Common.{◌≡◌, ◌∙◌, ◌+◌, ◌-◌, ◌<◌, suc, List, length, ap, sym, subst, arith, Some, None}
use Rattle.graph_nodes.specs.declared.graph.Edge.{Edge}
use Rattle.module_graph.specs.Cycles.{IsWay}
use Rattle.module_graph.specs.Search.{IsNearestFound}
use Rattle.module_graph.proofs.Starting.{near_read, found_inside}
use Rattle.module_graph.proofs.Ways.{leads_on, one_nearer, way_on}
use Rattle.module_graph.proofs.cycle.rest_of_cycle.Goals as goal

pub unreachable-requires : goal.unreachable-requires
unreachable-requires g c =
    let nodes = c.args.g.now.nodes in
    let found = c.args.start.now.found.items in
    let m = c.loop-step.node.0 in
    let left = c.args.start.now.first.distance - c.loop-step._step - 1 in
    let e : c.args.start.now.first.distance - c.loop-step._step
    ≡ suc (c.args.start.now.first.distance - c.loop-step._step - 1) = omega arith in
    leads_on nodes c.args.start.now.node found c.requires.start.3 m left (c.loop-step.invariant.1 ∙ ap Some e)
    (near_read nodes c.as_slice.result.now m c.index-as_slice-node.result c.as_slice-edges.result.now found
    c.deref.result.now None c.loop-step.invariant.0 c.as_slice.ensures c.as_slice-edges.ensures c.deref.ensures.value
    (subst (IsNearestFound c.deref.result.now c.as_slice-edges.result.now) c.in-None.is c.nearest.ensures))

pub loop-step-preserved : goal.loop-step-preserved
loop-step-preserved g c =
    let nodes = c.args.g.now.nodes in
    let found = c.args.start.now.found.items in
    let m = c.loop-step.node.0 in
    let best = c.in-Some.near in
    let left = c.args.start.now.first.distance - c.loop-step._step - 1 in
    let e : c.args.start.now.first.distance - c.loop-step._step
    ≡ suc (c.args.start.now.first.distance - c.loop-step._step - 1) = omega arith in
    let e' : c.args.start.now.first.distance - c.loop-step._step - 1
    ≡ c.args.start.now.first.distance - (c.loop-step._step + 1) = omega arith in
    let is = c.loop-step.invariant.1 ∙ ap Some e in
    let near = near_read nodes c.as_slice.result.now m c.index-as_slice-node.result c.as_slice-edges.result.now found
    c.deref.result.now (Some best) c.loop-step.invariant.0 c.as_slice.ensures c.as_slice-edges.ensures
    c.deref.ensures.value c.in-Some.ensures in
    let lt : best.edge.to.0 < length found = found_inside found best.edge.to.0 best.distance near.3 in
    let many = c.requires.start.2 in (
      omega arith,
      near.3 ∙ ap Some (one_nearer nodes c.args.start.now.node found c.requires.start.3 m left is best near ∙ e'),
      subst (λ (l : List Edge). IsWay nodes c.args.start.now.node c.args.start.now.first.edge.to.0 l best.edge.to.0)
          (sym {A = List Edge} c.in_ok-push-in-Some.ensures.items)
          (way_on nodes c.args.start.now.node found c.requires.start.3 m left is best near
          c.args.start.now.first.edge.to.0 c.loop-step.rest.items c.loop-step.invariant.2),
    )

pub returns : goal.returns
returns g c =
    let nodes = c.args.g.now.nodes in
    let s = c.args.start.now.node in
    let e : c.args.start.now.first.distance - c.loop-step._step ≡ 0 = omega arith in
    let there : c.loop-step.node.0 ≡ s =
    (c.requires.start.3.right c.loop-step.node.0 0 (c.loop-step.invariant.1 ∙ ap Some e)).walk in
    subst (λ m. IsWay nodes s c.args.start.now.first.edge.to.0 c.loop-step.rest.items m) there c.loop-step.invariant.2
