use Rattle.std.proofs.Common.{◌∙◌, map, subst}
use Rattle.std.specs.Arc.{arc_value}
use Rattle.std.proofs.lemmas.List.{length-map}
use Rattle.variant_graphs.specs.Limits.{IsWithinLimits}
use Rattle.mutator_kinds.proofs.InPlace.{firsts_are_new, limits_passed, within_kept}
use Rattle.mutator_kinds.proofs.results.graph_in_place.Goals as goal

pub returns-in_err-check_limits : goal.returns-in_err-check_limits
returns-in_err-check_limits g c =
    let outs = map arc_value c.args.outs.items in
    let many = length-map c.args.outs.items arc_value ∙ c.requires.many in
    let new = firsts_are_new c.args.axis c.args.g.nodes outs many c.requires.numbered.ends c.requires.one in
    limits_passed _ c.args.axis c.args.g.nodes outs new c.in_err-check_limits.field-0.0 c.from_residual.result
    c.in_err-check_limits.ensures c.from_residual.ensures.0 c.from_residual.ensures.1

pub returns : goal.returns
returns g c =
    let outs = map arc_value c.args.outs.items in
    let many = length-map c.args.outs.items arc_value ∙ c.requires.many in
    let new = firsts_are_new c.args.axis c.args.g.nodes outs many c.requires.numbered.ends c.requires.one in (
      subst IsWithinLimits new (within_kept c.args.axis c.args.g.nodes outs c.in_ok-check_limits.ensures),
      c.in_ok-change_in_place.ensures.new ∙ new,
      c.in_ok-change_in_place.ensures.asked,
    )
