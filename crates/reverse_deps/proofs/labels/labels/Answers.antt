use Rattle.std.proofs.Common.{◌≡◌, ◌<◌, [], ◌∷◌, ◌∙◌, ◌++◌, ap, sym, subst, refl, length, map, get_or, take, arith}
use Rattle.std.specs.Option.{option_map_or}
use Rattle.std.proofs.lemmas.List.{take_more, map-append}
use Rattle.std.proofs.lemmas.Option.{slice_get_read}
use Rattle.std.proofs.lemmas.List.Elements.{All-from_recursion}
use Rattle.bp_props.specs.declared.module.Module.{Module}
use Rattle.graph_nodes.specs.declared.graph.Node.{Node}
use Rattle.graph_nodes.specs.Names.{label_of}
use Rattle.reverse_deps.specs.Applied.{name_of}
use Rattle.reverse_deps.proofs.labels.labels.Goals as goal

pub loop-node-preserved : goal.loop-node-preserved
loop-node-preserved g c =
    let mods = c.args.mods.now in
    let nodes = c.args.g.now.nodes in
    let i = c.loop-node.node-index in
    let node = c.node-item.result in
    let it = c.index-mods-node.result in
    let count = ap length c.as_slice-node-items.ensures in
    let lt : i < length nodes = omega arith in
    let is : node ≡ get_or nodes i node = c.node-item.is ∙ ap (λ l. get_or l i node) c.as_slice-node-items.ensures in
    let accepted = subst (λ (x : Node _). x.«module».0 < length mods) (sym is)
    (All-from_recursion (λ (x : Node _). x.«module».0 < length mods) nodes c.requires.accepted i node lt) in
    let named : name_of mods node.«module».0 ≡ it.name = ap (λ o. option_map_or (λ (m : Module). m.name) o [])
    (slice_get_read mods _ node.«module».0 it refl accepted c.index-mods-node.is) in
    let label = λ (x : Node _). label_of (name_of mods x.«module».0) x.vars in
    c.in_ok-push.ensures.items
    ∙ ap (λ l. l ++ c.in_ok-label.field-0 ∷ []) c.loop-node.invariant
    ∙ ap (λ y. map label (take i nodes) ++ y ∷ []) (c.in_ok-label.ensures ∙ ap (λ (m : Module).
    label_of m.name node.vars) (sym c.index-mods-node.is) ∙ ap (λ n. label_of n node.vars) (sym named) ∙ ap label is)
    ∙ sym (ap (map label) (take_more nodes i node lt) ∙ map-append label (take i nodes) (get_or nodes i node ∷ []))
