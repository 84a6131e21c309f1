use Rattle.std.proofs.Common.{◌<◌, ◌∙◌, ap, sym, subst, length}
use Rattle.std.specs.List.{AllByRecursion}
use Rattle.bp_faults.specs.declared.ids.NodeId.{NodeId}
use Rattle.reverse_deps.specs.Linked.{links, linked_nodes}
use Rattle.reverse_deps.proofs.Whole.{many_found, found_inside, bare_made, may_made, valid_made, means_made}
use Rattle.reverse_deps.proofs.applied.apply.Goals as goal

pub with_links-requires-clause-many : goal.with_links-requires-clause-many
with_links-requires-clause-many g c =
    ap length c.deref.ensures.value
    ∙ many_found c.args.mods.now c.args.g.nodes c.args.asked.now c.in_ok-found.found.items c.in_ok-found.ensures

pub with_links-requires-clause-found : goal.with_links-requires-clause-found
with_links-requires-clause-found g c =
    subst (AllByRecursion (λ (n : NodeId). n.0 < length c.args.g.nodes)) (sym c.deref.ensures.value)
    (found_inside c.args.mods.now c.args.g.nodes c.args.asked.now c.in_ok-found.found.items c.in_ok-found.ensures)

pub refuse_cycle-requires : goal.refuse_cycle-requires
refuse_cycle-requires g c =
    may_made c.args.mods.now c.args.g.nodes c.args.asked.now c.in_ok-found.found.items c.in_ok-found.ensures
    c.requires.asking c.in_ok-made.made.nodes
    (c.in_ok-made.ensures ∙ ap (λ found. linked_nodes c.args.g.nodes (links c.args.asked.now found))
    c.deref.ensures.value) c.in_ok-count_edges.ensures c.requires.may

pub returns-clause-means : goal.returns-clause-means
returns-clause-means g c =
    means_made c.args.mods.now c.args.g.nodes c.args.asked.now c.in_ok-found.found.items c.in_ok-found.ensures
    c.requires.asking c.in_ok-made.made.nodes
    (c.in_ok-made.ensures ∙ ap (λ found. linked_nodes c.args.g.nodes (links c.args.asked.now found))
    c.deref.ensures.value) c.in_ok-count_edges.ensures c.in_ok-refuse_cycle.ensures

pub returns-clause-bare : goal.returns-clause-bare
returns-clause-bare g c =
    bare_made c.args.mods.now c.args.g.nodes c.args.asked.now c.in_ok-found.found.items c.in_ok-found.ensures
    c.requires.asking c.in_ok-made.made.nodes
    (c.in_ok-made.ensures
    ∙ ap (λ found. linked_nodes c.args.g.nodes (links c.args.asked.now found)) c.deref.ensures.value)

pub returns-clause-may : goal.returns-clause-may
returns-clause-may g c =
    may_made c.args.mods.now c.args.g.nodes c.args.asked.now c.in_ok-found.found.items c.in_ok-found.ensures
    c.requires.asking c.in_ok-made.made.nodes
    (c.in_ok-made.ensures ∙ ap (λ found. linked_nodes c.args.g.nodes (links c.args.asked.now found))
    c.deref.ensures.value) c.in_ok-count_edges.ensures c.requires.may

pub returns-clause-valid : goal.returns-clause-valid
returns-clause-valid g c =
    valid_made c.args.mods.now c.args.g.nodes c.args.asked.now c.in_ok-found.found.items c.in_ok-found.ensures
    c.requires.asking c.in_ok-made.made.nodes
    (c.in_ok-made.ensures ∙ ap (λ found. linked_nodes c.args.g.nodes (links c.args.asked.now found))
    c.deref.ensures.value) c.in_ok-count_edges.ensures c.in_ok-refuse_cycle.ensures
