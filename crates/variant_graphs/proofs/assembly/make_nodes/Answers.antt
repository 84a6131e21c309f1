use Rattle.std.proofs.Common.{◌≡◌, ◌<◌, ◌+◌, ap, length, arith, ◌∙◌, get_or, map, take, List, [], ◌∷◌, ◌++◌, sym, subst}
use Rattle.std.specs.List.{AllByRecursion}
use Rattle.std.proofs.lemmas.List.{length-append}
use Rattle.std.proofs.lemmas.Iterator.Adapters.{YieldsList-from_vec}
use Rattle.std.proofs.lemmas.Iterator.Consumers.{YieldsList-turn}
use Rattle.bp_faults.proofs.Lists.{all_map, same_at}
use Rattle.graph_nodes.specs.declared.graph.Edge.{Edge}
use Rattle.graph_nodes.specs.declared.graph.Node.{Node}
use Rattle.variant_graphs.specs.Inside.{node_by}
use Rattle.variant_graphs.specs.Splitting.{splitting, variants_at, variant_node, split_nodes}
use Rattle.variant_graphs.proofs.Alls.{by_number_step}
use Rattle.variant_graphs.proofs.Begun.{begins_long, fits, same_variant}
use Rattle.variant_graphs.proofs.Beyond.{ends_of_node}
use Rattle.variant_graphs.proofs.assembly.make_nodes.Goals as goal

pub offset_bounds-nodes-n : goal.offset_bounds-nodes-n
offset_bounds-nodes-n g c =
    let road = YieldsList-from_vec {s = c.into_iter-list-iterator.result} c.args.variants.items
    c.into_iter-list-iterator.ensures.into_iter_gives.0
    (c.into_iter-list-iterator.ensures.into_iter_gives.1 ∙ c.args.variants.ok.0) in
    let turn = YieldsList-turn road c.loop-list.yielded c.loop-list.list-iterator c.loop-list.yielded_by
    c.next.result c.next.new.self c.in-Some.list c.in-Some.is c.next.ensures.steps in
    let many = c.requires.many in
    let nodes = ap length c.as_slice-nodes.ensures in
    let at = c.loop-list.invariant.1 in
    omega (arith, turn.0)

pub add_variants-requires-clause-fit : goal.add_variants-requires-clause-fit
add_variants-requires-clause-fit g c =
    fits (g.S.Splitter.rule c.args.s.now) c.args.variants.items c.args.numbering.now c.requires.numbering

pub add_variants-requires-clause-may : goal.add_variants-requires-clause-may
add_variants-requires-clause-may g c =
    let road = YieldsList-from_vec {s = c.into_iter-list-iterator.result} c.args.variants.items
    c.into_iter-list-iterator.ensures.into_iter_gives.0
    (c.into_iter-list-iterator.ensures.into_iter_gives.1 ∙ c.args.variants.ok.0) in
    let turn = YieldsList-turn road c.loop-list.yielded c.loop-list.list-iterator c.loop-list.yielded_by
    c.next.result c.next.new.self c.in-Some.list c.in-Some.is c.next.ensures.steps in
    let nodes = c.args.g.now.nodes in
    let n = c.loop-list.n in
    let node = c.index-nodes-n.result in
    let many = c.requires.many in
    let at = c.loop-list.invariant.1 in
    let lt : c.loop-list.n < length c.args.g.now.nodes = omega (arith, turn.0) in
    let node_is : node ≡ get_or nodes n node =
    c.index-nodes-n.is ∙ ap (λ l. get_or l n node) c.as_slice-nodes.ensures in
    all_map (λ (e : Edge). e.to.0 < length nodes) (g.S.Splitter.may_lead c.args.s.now n)
    (λ e inside. c.requires.may n e lt inside)
    node.edges (ends_of_node nodes c.requires.numbered.ends n node lt node_is)

pub add_variants-requires-clause-to : goal.add_variants-requires-clause-to
add_variants-requires-clause-to g c =
    let road = YieldsList-from_vec {s = c.into_iter-list-iterator.result} c.args.variants.items
    c.into_iter-list-iterator.ensures.into_iter_gives.0
    (c.into_iter-list-iterator.ensures.into_iter_gives.1 ∙ c.args.variants.ok.0) in
    let turn = YieldsList-turn road c.loop-list.yielded c.loop-list.list-iterator c.loop-list.yielded_by
    c.next.result c.next.new.self c.in-Some.list c.in-Some.is c.next.ensures.steps in
    let nodes = c.args.g.now.nodes in
    let n = c.loop-list.n in
    let node = c.index-nodes-n.result in
    let many = c.requires.many in
    let at = c.loop-list.invariant.1 in
    let lt : c.loop-list.n < length c.args.g.now.nodes = omega (arith, turn.0) in
    let node_is : node ≡ get_or nodes n node =
    c.index-nodes-n.is ∙ ap (λ l. get_or l n node) c.as_slice-nodes.ensures in
    let s = splitting (g.S.Splitter.rule c.args.s.now) c.args.variants.items in
    let long = begins_long s c.args.numbering.now c.requires.numbering in
    all_map (λ (e : Edge). e.to.0 < length nodes) (λ (e : Edge). e.to.0 + 1 < length c.args.numbering.now.begins.items)
    (λ e inside. omega arith) node.edges (ends_of_node nodes c.requires.numbered.ends n node lt node_is)

pub loop-list-preserved : goal.loop-list-preserved
loop-list-preserved g c =
    let road = YieldsList-from_vec {s = c.into_iter-list-iterator.result} c.args.variants.items
    c.into_iter-list-iterator.ensures.into_iter_gives.0
    (c.into_iter-list-iterator.ensures.into_iter_gives.1 ∙ c.args.variants.ok.0) in
    let turn = YieldsList-turn road c.loop-list.yielded c.loop-list.list-iterator c.loop-list.yielded_by
    c.next.result c.next.new.self c.in-Some.list c.in-Some.is c.next.ensures.steps in
    let rule = g.S.Splitter.rule c.args.s.now in
    let lists = c.args.variants.items in
    let s = splitting rule lists in
    let nodes = c.args.g.now.nodes in
    let n = c.loop-list.n in
    let node = c.index-nodes-n.result in
    let many = c.requires.many in
    let at = c.loop-list.invariant.1 in
    let lt : c.loop-list.n < length c.args.g.now.nodes = omega (arith, turn.0) in
    let node_is : node ≡ get_or nodes n node =
    c.index-nodes-n.is ∙ ap (λ l. get_or l n node) c.as_slice-nodes.ensures in
    let ends = subst (λ k. AllByRecursion (λ (e : Edge). e.to.0 < k) node.edges) (sym many)
    (ends_of_node nodes c.requires.numbered.ends n node lt node_is) in
    let listed : c.in-Some.list ≡ variants_at s n =
    turn.1 ∙ ap (λ k. get_or lists k c.in-Some.list) (sym at) ∙ same_at lists n c.in-Some.list [] (omega arith) in
    let longer = length-append c.loop-list.yielded (c.in-Some.list ∷ []) in (
      c.in_ok-add_variants.ensures
          ∙ ap (λ (l : List (Node _)). l ++ map (node_by rule c.args.numbering.now n node) c.in-Some.list)
          c.loop-list.invariant.0
          ∙ (λ i. split_nodes s (take n nodes)
          ++ map (λ b. same_variant rule lists c.args.numbering.now c.requires.numbering n node b ends i) (listed i))
          ∙ ap (λ y. split_nodes s (take n nodes) ++ map (variant_node s n y) (variants_at s n)) node_is
          ∙ sym (by_number_step (λ k x. map (variant_node s k x) (variants_at s k)) nodes n node lt),
      omega arith,
    )
