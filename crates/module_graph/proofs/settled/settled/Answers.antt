use Rattle.std.proofs.Common.{◌≡◌, ◌∙◌, ◌<◌, ◌≤◌, ℕ, List, take, slice_index, length, arith, subst, sym}
use Rattle.std.proofs.Common.{ap}
use Rattle.std.specs.List.{AllByRecursion}
use Rattle.std.proofs.lemmas.Bool.Decides.{nat_tests}
use Rattle.bp_faults.proofs.Lists.{all_map}
use Rattle.serial_pass.specs.declared.plan.PlanEdge.{PlanEdge}
use Rattle.graph_nodes.specs.declared.graph.Edge.{Edge}
use Rattle.graph_nodes.specs.declared.graph.Node.{Node}
use Rattle.module_graph.specs.Graphs.{edges_of}
use Rattle.module_graph.specs.Walks.{Returns}
use Rattle.module_graph.proofs.Climbing.{all_edges_more, none_below}
use Rattle.module_graph.proofs.settled.settled.Goals as goal

pub loop-n-preserved : goal.loop-n-preserved
loop-n-preserved g c =
    let numbers = c.args.numbers.now in
    let number : ℕ → ℕ = λ n. slice_index numbers n in
    let n = c.loop-n.n in
    let least = c.least_target-least.result in
    let r = c.narrowed-first.result in
    let nodes = c.as_slice-nodes.result.now in
    let x = c.index-nodes-n.result in
    let inv = c.loop-n.invariant in
    let above : AllByRecursion (λ (e : Edge). least ≤ number e.to.0) x.edges =
    subst (λ (es : List Edge). AllByRecursion (λ (e : Edge). least ≤ number e.to.0) es)
    (c.as_slice.ensures ∙ ap (λ (y : Node _). y.edges) (sym c.index-nodes-n.is)) c.least_target-least.ensures in
    let lt : n < length nodes = omega arith in
    let is : c.from-number.result ≡ number n = c.from-number.ensures in
    let climbs : number n ≤ least = omega (arith, is, c.if-least-number.false) in
    let strict : n < r → number n < least =
    λ lt. let counted = c.narrowed-first.ensures.counted in grind (arith, nat_tests) in (
      omega arith,
      all_edges_more c.one_more_item.ensures (λ (e : PlanEdge). number e.from.0 ≤ number e.to.0) nodes n x lt
          c.index-nodes-n.is inv.1
          (all_map (λ (e : Edge). least ≤ number e.to.0) (λ (e : Edge). number n ≤ number e.to.0)
          (λ e h. omega arith) x.edges above),
      all_edges_more c.one_more_item.ensures (λ (e : PlanEdge). e.from.0 < r → number e.from.0 < number e.to.0) nodes n
          x lt c.index-nodes-n.is
          (all_map (λ (e : PlanEdge). e.from.0 < c.loop-n.first → number e.from.0 < number e.to.0)
          (λ (e : PlanEdge). e.from.0 < r → number e.from.0 < number e.to.0)
          (λ e h lt. h (omega arith)) (edges_of (take n nodes)) inv.2)
          (all_map (λ (e : Edge). least ≤ number e.to.0) (λ (e : Edge). n < r → number n < number e.to.0)
          (λ e h lt. let s = strict lt in omega arith) x.edges above),
    )

pub returns-clause-none : goal.returns-clause-none
returns-clause-none g c =
    let number : ℕ → ℕ = λ n. slice_index c.args.numbers.now n in
    subst (λ (es : List PlanEdge). (n : ℕ) → n < c.loop-n.first → Returns es n → ⊥)
    (ap edges_of c.as_slice-nodes.ensures)
    (none_below c.as_slice-nodes.result.now c.loop-n.n c.loop-n.first number
    (omega arith) c.loop-n.invariant.1 c.loop-n.invariant.2)
