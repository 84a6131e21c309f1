use Rattle.std.proofs.Common.{◌<◌, ◌+◌, length, set, drop, get_or, ap, sym, subst, ◌∙◌, length-set, arith}
use Rattle.std.proofs.lemmas.List.{drop_more, drop_all}
use Rattle.std.proofs.lemmas.List.Elements.{All-from_recursion}
use Rattle.graph_nodes.specs.declared.graph.EdgeKind.TheVariants.{Defaults}
use Rattle.reverse_deps.specs.Linked.{Link, linked_nodes}
use Rattle.reverse_deps.proofs.Gained.{one_link, no_links}
use Rattle.reverse_deps.proofs.linking.link.Goals as goal

-- what a read beyond the links would give
abbrev none : Link
none =
    (record { 0 = 0 }, record { kind = Defaults; to = record { 0 = 0 }; at = record { file = 0; line = 0; col = 0 } })

pub loop-holder-preserved : goal.loop-holder-preserved
loop-holder-preserved g c =
    let links = c.args.links.now in
    let nodes = c.loop-holder.nodes in
    let i = c.loop-holder.holder-index in
    let l : Link = get_or links i none in
    let d = c.index-nodes-holder.result in
    let many = c.loop-holder.invariant.many in
    let inside : l.0.0 < length nodes = subst (λ n. l.0.0 < n) (sym many) (All-from_recursion (λ (x : Link). x.0.0
    < length c.args.nodes.now) links c.requires i none c.loop-holder-test.true) in
    record {
      many = length-set nodes l.0.0 _ ∙ many;
      rest =
          ap (λ es. linked_nodes (set nodes l.0.0 (record (get_or nodes l.0.0 d) { edges = es })) (drop (i + 1) links))
          c.in_ok-push.ensures.ok
          ∙ sym (one_link nodes d l (drop (i + 1) links) inside)
          ∙ ap (linked_nodes nodes) (sym (drop_more links i none c.loop-holder-test.true))
          ∙ c.loop-holder.invariant.rest;
    }

pub returns : goal.returns
returns g c =
    sym (no_links c.loop-holder.nodes)
    ∙ ap (linked_nodes c.loop-holder.nodes) (sym (drop_all c.loop-holder.holder-index c.args.links.now (omega arith)))
    ∙ c.loop-holder.invariant.rest
