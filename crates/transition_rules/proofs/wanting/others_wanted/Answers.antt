use Rattle.std.proofs.Common.{◌≡◌, ◌∙◌, ap, sym, get_or, map, take, fold, List}
use Rattle.std.specs.Arc.{arc_value}
use Rattle.bp_faults.specs.declared.ids.NodeId.{NodeId}
use Rattle.graph_nodes.specs.declared.graph.EdgeKind.{EdgeKind}
use Rattle.graph_nodes.specs.declared.graph.EdgeKind.TheVariants.{Defaults}
use Rattle.graph_nodes.specs.declared.variation.Variation.{Variation}
use Rattle.transition_rules.specs.Wants.{wants_with, others_of, handed_variation, wanted_variations}
use Rattle.transition_rules.proofs.Along.{wanted_more}
use Rattle.transition_rules.proofs.wanting.others_wanted.Goals as goal

pub loop-i-preserved : goal.loop-i-preserved
loop-i-preserved g c =
    let m = g.M.Transition.meaning c.args.rule.now in
    let nodes = c.args.g.now.nodes in
    let own = c.args.own.now in
    let n = c.args.n.0 in
    let i = c.loop-i.i in
    let b = c.index-lists-i.result in
    let d : NodeId × EdgeKind = (record { 0 = 0 }, Defaults) in
    let a = get_or c.args.arriving.now i d in
    let list : c.as_slice.result.now ≡ arc_value (get_or c.args.lists.now i b) =
    c.as_slice.ensures ∙ c.deref.ensures ∙ ap arc_value c.index-lists-i.is in
    c.in_ok-add_handed.ensures
    ∙ ap (λ (l : List Variation). fold (wants_with own) l (map (handed_variation m nodes n a) c.as_slice.result.now))
    c.loop-i.invariant
    ∙ ap (λ (l : List Variation). fold (wants_with own)
    (others_of own (wanted_variations m nodes n (take i c.args.arriving.now) (map arc_value (take i c.args.lists.now))))
    (map (handed_variation m nodes n a) l)) list
    ∙ sym (wanted_more m nodes n arc_value own c.args.arriving.now c.args.lists.now i d b c.loop-i-test.true
    c.requires.many)
