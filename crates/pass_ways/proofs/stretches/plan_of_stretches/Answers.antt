use Rattle.std.proofs.Common.{◌≡◌, ◌<◌, ◌≤◌, ◌*◌, ℕ, sym, subst, length, arith, List, Bool}
use Rattle.std.specs.Prelude.{slice_index}
use Rattle.std.specs.List.{AllByRecursion}
use Rattle.std.proofs.lemmas.List.{length-map}
use Rattle.bp_faults.specs.declared.ids.NodeId.{NodeId}
use Rattle.serial_pass.specs.Orders.{numbers}
use Rattle.pass_ways.specs.Stretches.{stretch, AddsEdges, MarksSources, TellsStretches}
use Rattle.pass_ways.proofs.Linked.{nodes_inside, told_below, links_more, plan_made}
use Rattle.pass_ways.proofs.Stretched.{stretch-map}
use Rattle.pass_ways.proofs.stretches.plan_of_stretches.Goals as goal

told_whole : (count size : ℕ) (order : List NodeId) (table : List ℕ) → TellsStretches count size (numbers order)
    (length order) table
    → TellsStretches count size (numbers order) (length (numbers order)) table
told_whole count size order table told = subst (λ index. TellsStretches count size (numbers order) index table) (sym
    (length-map order (λ (n : NodeId). n.0))) told

pub sources_of-requires-clause-nodes : goal.sources_of-requires-clause-nodes
sources_of-requires-clause-nodes c =
    subst (AllByRecursion (λ (n : NodeId). n.0 < c.args.plan.now.count)) (sym c.stretch_at-nodes.ensures)
    (nodes_inside c.args.plan.now.count c.args.size c.loop-k.k c.args.order.now c.requires.legal.each_once.nodes)

pub sources_of-requires-clause-below : goal.sources_of-requires-clause-below
sources_of-requires-clause-below c =
    let many = length-map c.args.order.now (λ (n : NodeId). n.0) in
    let enough : length (numbers c.args.order.now) ≤ c.args.many * c.args.size = subst (λ l. l ≤ c.args.many *
    c.args.size) (sym many) c.requires.enough in
    subst (λ (table : List ℕ). (m : ℕ) → m < c.args.plan.now.count → slice_index table m < c.args.many) (sym
    c.deref.ensures.value)
    (told_below c.args.plan.now (numbers c.args.order.now) c.in_ok-table.table.items c.args.size c.args.many
    c.requires.legal c.requires.positive enough
    (told_whole c.args.plan.now.count c.args.size c.args.order.now c.in_ok-table.table.items c.in_ok-table.ensures))

pub loop-k-preserved : goal.loop-k-preserved
loop-k-preserved c =
    let plan = c.args.plan.now in
    let table = c.in_ok-table.table.items in
    let Marks : List ℕ → List NodeId → Type 0 = λ t l. MarksSources plan.edges t (numbers l) c.in_ok-marks.marks.items
    in
    let marked : Marks table (stretch c.args.size c.loop-k.k c.args.order.now) =
    subst (Marks table) c.stretch_at-nodes.ensures (subst (λ t. Marks t c.stretch_at-nodes.result.now)
    c.deref.ensures.value c.in_ok-marks.ensures.1) in
    let there : MarksSources plan.edges table (stretch c.args.size c.loop-k.k (numbers c.args.order.now))
    c.in_ok-marks.marks.items =
    subst (λ l. MarksSources plan.edges table l c.in_ok-marks.marks.items) (sym (stretch-map (λ (n : NodeId). n.0)
    c.args.size c.loop-k.k c.args.order.now)) marked in
    let added : AddsEdges c.in_ok-marks.marks.items c.loop-k.k c.loop-k.k c.loop-k.edges.items
    c.push_edges.new.edges.items =
    subst (λ (l : List Bool). AddsEdges l c.loop-k.k c.loop-k.k c.loop-k.edges.items c.push_edges.new.edges.items)
    c.deref-in-loop-k.ensures.value c.in_ok-push_edges.ensures in
    links_more plan c.args.size (numbers c.args.order.now) table c.requires.positive c.loop-k.k c.loop-k.edges.items
    c.push_edges.new.edges.items c.in_ok-marks.marks.items
    c.loop-k.invariant there added

pub returns : goal.returns
returns c =
    let many = length-map c.args.order.now (λ (n : NodeId). n.0) in
    let enough : length (numbers c.args.order.now) ≤ c.args.many * c.args.size = subst (λ l. l ≤ c.args.many *
    c.args.size) (sym many) c.requires.enough in
    let whole : c.loop-k.k ≡ c.args.many = omega arith in
    plan_made c.args.plan.now c.args.size (numbers c.args.order.now) c.in_ok-table.table.items c.requires.positive
    c.loop-k.k c.loop-k.edges.items _
    c.loop-k.invariant (sym whole) c.new.ensures (subst (λ m. m ≤ 1024) (sym whole) c.requires.few) (subst (λ m. length
    (numbers c.args.order.now) ≤ m * c.args.size) (sym whole) enough)
    (told_whole c.args.plan.now.count c.args.size c.args.order.now c.in_ok-table.table.items c.in_ok-table.ensures)
