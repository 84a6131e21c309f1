use Rattle.std.proofs.Common.{◌≡◌, ◌<◌, ◌+◌, ◌∙◌, ap, sym, subst, length, get_or, take, Bool, List}
use Rattle.std.specs.Prelude.{slice_index}
use Rattle.std.specs.List.{AllByRecursion}
use Rattle.std.proofs.lemmas.List.{with_items_is}
use Rattle.bp_faults.specs.declared.ids.NodeId.{NodeId}
use Rattle.serial_pass.specs.declared.plan.PlanEdge.{PlanEdge}
use Rattle.serial_pass.specs.Orders.{numbers}
use Rattle.pass_ways.specs.Stretches.{KeepsMarks, MarksSources}
use Rattle.pass_ways.proofs.Linked.{sources_inside, each_below, sources_more}
use Rattle.pass_ways.proofs.stretches.sources_of.Goals as goal

pub mark_sources-requires-clause-inside : goal.mark_sources-requires-clause-inside
mark_sources-requires-clause-inside c =
    let n = (get_or c.args.nodes.now c.loop-n.n-index (record { 0 = 0 })).0 in
    subst (λ count. AllByRecursion (λ (e : PlanEdge). e.from.0 < count) c.edges_into.result.now) (sym c.requires.each)
    (sources_inside c.args.plan.now c.edges_into.result.now n c.requires.plan c.edges_into.ensures)

pub mark_sources-requires-clause-below : goal.mark_sources-requires-clause-below
mark_sources-requires-clause-below c =
    let n = (get_or c.args.nodes.now c.loop-n.n-index (record { 0 = 0 })).0 in
    let many : length c.deref_mut.result.now ≡ c.args.many = ap length c.deref_mut.ensures.value ∙ c.loop-n.invariant.0
    in
    subst (λ count. AllByRecursion (λ (e : PlanEdge). slice_index c.args.table.now e.from.0 < count)
    c.edges_into.result.now) (sym many)
    (each_below c.edges_into.result.now c.args.table.now c.args.plan.now.count c.args.many c.requires.below
    (sources_inside c.args.plan.now c.edges_into.result.now n c.requires.plan c.edges_into.ensures))

pub loop-n-preserved : goal.loop-n-preserved
loop-n-preserved c =
    let d : NodeId = record { 0 = 0 } in
    let new = c.mark_sources.new.marks in
    let kept = c.mark_sources.ensures.kept in
    let is = with_items_is c.loop-n.marks new (kept.0 ∙ c.deref_mut.ensures.len) in
    let keeps : KeepsMarks c.loop-n.marks.items new = subst (λ (l : List Bool). KeepsMarks l new)
    c.deref_mut.ensures.value kept in
    let more : MarksSources c.args.plan.now.edges c.args.table.now (numbers (take (c.loop-n.n-index + 1)
    c.args.nodes.now)) new =
    sources_more c.args.plan.now.edges c.args.table.now c.args.nodes.now c.loop-n.marks.items new c.loop-n.n-index d
    c.edges_into.result.now c.loop-n-test.true
    c.loop-n.invariant.1 keeps c.edges_into.ensures c.mark_sources.ensures.made in
    subst (λ (l : List Bool). (length l ≡ c.args.many) × MarksSources c.args.plan.now.edges c.args.table.now (numbers
    (take (c.loop-n.n-index + 1) c.args.nodes.now)) l)
    (sym is) (keeps.0 ∙ c.loop-n.invariant.0, more)
