use Rattle.std.proofs.Common.{◌∙◌, ℕ, List, get_or, ap, subst, rules, []}
use Rattle.bp_faults.proofs.Lists.{same_at, take-past}
use Rattle.bp_names.specs.Meaning.{LearnsNumber, number_of}
use Rattle.graph_picture.specs.Drawing.{clusters_behind, module_name_at}
use Rattle.graph_picture.proofs.Clustered.{grouped_none, grouped_more, grouped_inside}
use Rattle.graph_picture.proofs.clusters.clusters_of.Goals as goal

pub loop-n-init : goal.loop-n-init
loop-n-init c =
    grouped_none c.args.variants.now c.args.numbers.now c.new-table.result c.new-clusters.result.items
    c.new-table.ensures c.new-clusters.ensures.items

pub overflow_cast-len : goal.overflow_cast-len
overflow_cast-len c =
    let few = c.loop-n.invariant.few in
    let size = c.len.ensures in
    let count = c.loop-n.clusters.ok.0 in
    let most = c.requires in
    search rules

pub put_number-requires : goal.put_number-requires
put_number-requires c =
    let variants = c.args.variants.now in
    let numbers = c.args.numbers.now in
    let i = c.loop-n.n-index in
    let lt = c.loop-n-test.true in
    grouped_inside variants numbers i (get_or numbers i 0) lt (same_at numbers i 0 _ lt) c.loop-n.table
    c.loop-n.clusters.items c.loop-n.invariant c.in_ok-known.known
    (c.in_ok-known.ensures.had ∙ ap (number_of c.loop-n.table) c.module_at.ensures)

pub loop-n-preserved : goal.loop-n-preserved
loop-n-preserved c =
    let variants = c.args.variants.now in
    let numbers = c.args.numbers.now in
    let i = c.loop-n.n-index in
    let lt = c.loop-n-test.true in
    let n = get_or numbers i 0 in
    let table = c.loop-n.table in
    let new = c.learn.new.self in
    let Named : List ℕ → Type 0 = λ name. LearnsNumber table name c.len.result new in
    let Numbered : ℕ → Type 0 = λ k. LearnsNumber table (module_name_at variants n) k new in
    grouped_more variants numbers i n lt (same_at numbers i 0 _ lt) table c.loop-n.clusters.items c.loop-n.invariant
    c.tables_grow_with_lists.ensures c.in_ok-known.known new c.put_number.new.clusters.items
    (c.in_ok-known.ensures.had ∙ ap (number_of table) c.module_at.ensures)
    (subst Numbered (c.len.ensures ∙ c.loop-n.clusters.ok.0)
    (subst Named c.module_at.ensures c.in_ok-known.ensures.known))
    c.in_ok-known.ensures.kept c.in_ok-put_number.ensures

pub returns : goal.returns
returns c =
    c.loop-n.invariant.clusters_are
    ∙ ap (clusters_behind c.args.variants.now []) (take-past c.loop-n.n-index c.args.numbers.now c.loop-n-test.false)
