use Rattle.std.proofs.Common.{ap, sym, ◌∙◌, map, cond, Some, get_or, take, ℕ}
use Rattle.std.specs.Arc.{arc_value}
use Rattle.std.proofs.lemmas.List.{length-map}
use Rattle.bp_props.specs.declared.props.Props.{Props}
use Rattle.graph_nodes.specs.declared.graph.EdgeKind.TheVariants.{Defaults}
use Rattle.info_mutators.specs.SdkLevel.{is_level_handed, lesser, least, handed_levels}
use Rattle.info_mutators.proofs.Read.{get_mapped}
use Rattle.info_mutators.proofs.Zipped.{least_handed_more}
use Rattle.info_mutators.proofs.sdk_level.least_handed.Goals as goal

pub loop-index-preserved : goal.loop-index-preserved
loop-index-preserved c =
    let kinds = c.args.kinds.now in
    let ins = map arc_value c.args.ins.now in
    let index = c.loop-index.index in
    let arc = c.index-ins-index.result in
    let read = c.deref.ensures
    ∙ sym (get_mapped arc_value c.args.ins.now index arc ∙ ap arc_value (sym c.index-ins-index.is)) in
    c.with_edge-least.ensures
    ∙ ap (λ l. cond (is_level_handed (get_or kinds index Defaults)) (Some (lesser l c.level.result)) l)
    c.loop-index.invariant
    ∙ ap (λ (level : ℕ). cond (is_level_handed (get_or kinds index Defaults))
    (Some (lesser (least (handed_levels (take index kinds) ins)) level)) (least (handed_levels (take index kinds) ins)))
    (c.level.ensures ∙ ap (λ (p : Props). p.level) read)
    ∙ sym (least_handed_more kinds ins index Defaults (arc_value arc) c.loop-index-test.true
    (length-map c.args.ins.now arc_value ∙ c.requires))
