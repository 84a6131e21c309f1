use Rattle.std.proofs.Common.{ap, sym, ◌∙◌, map, cond, Some, None, List}
use Rattle.std.specs.Arc.{arc_value}
use Rattle.bp_props.specs.declared.module.Module.{Module}
use Rattle.module_rules.specs.Results.{one_variant}
use Rattle.mutator_rules.specs.declared.request.Request.{Request}
use Rattle.info_mutators.specs.Dependencies.{dependencies_of}
use Rattle.info_mutators.specs.Info.{has_short_lists, with_lists, info_meant}
use Rattle.info_mutators.proofs.Read.{meant_made}
use Rattle.info_mutators.proofs.info.InfoBottomUpRecord.visit.Goals as goal

pub returns-in-Some : goal.returns-in-Some
returns-in-Some c =
    let mods = c.self.inside.mods.now in
    let nodes = c.args.g.now.nodes in
    let node = c.at-at.result.node.now in
    let ins = map arc_value c.args.ins.now in
    ap (λ (ms : List Module). info_meant ms nodes c.args.n.0 ins) (sym c.self.view_is)
    ∙ meant_made mods nodes c.args.n.0 ins c.at-at.result.module.now node c.at-at.ensures
    c.in_ok-dependencies.dependencies.items
    (c.in_ok-dependencies.ensures ∙ ap (λ es. dependencies_of mods nodes es ins) c.as_slice-edges.ensures)
    c.in-Some.made _ (sym c.in-Some.is ∙ c.in_ok-made.ensures
    ∙ ap (λ ds. cond (has_short_lists node.payload ds) (Some (with_lists node.payload ds)) None) c.deref.ensures.value)
    (c.in_ok-one_variant-in-Some.ensures
    ∙ ap (λ (asked : List Request). one_variant c.in-Some.made asked) (c.new-in-Some.ensures ∙ c.new.ensures.items))
