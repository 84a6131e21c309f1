use Rattle.std.proofs.Common.{◌∙◌, ap, subst, sym, map, List}
use Rattle.std.specs.Arc.{arc_value}
use Rattle.std.proofs.lemmas.List.{length-map}
use Rattle.graph_nodes.specs.declared.graph.Node.{Node}
use Rattle.module_graph.specs.Graphs.{IsValid}
use Rattle.mutator_rules.specs.Conditions.{MayRun}
use Rattle.variant_graphs.specs.Limits.{IsWithinLimits}
use Rattle.variant_graphs.specs.Splitting.{StayFree}
use Rattle.mutator_kinds.specs.BottomUp.{new_nodes}
use Rattle.mutator_kinds.proofs.Fit.{valid_after, modules_after, free_after}
use Rattle.mutator_kinds.proofs.May.{may_still}
use Rattle.mutator_kinds.proofs.upward.run_bottom_up_by.Goals as goal

pub returns-clause-valid : goal.returns-clause-valid
returns-clause-valid g c =
    let nodes = c.args.g.nodes in
    let items = c.in_ok-run.run'.outs.items in
    let many = length-map items arc_value ∙ c.in_ok-run.ensures.many in
    let new = c.in_ok-made.ensures.1 ∙ ap (λ o. new_nodes o nodes (map arc_value items)) c.axis.ensures in
    subst (λ (l : List (Node _)). IsValid l) (sym new)
    (valid_after nodes (map arc_value items) many
    (g.M.BottomUp.splits_along c.args.rule.now) c.splits_stay_valid.ensures c.new_payloads_stay_valid.ensures
    c.requires.valid c.requires.free c.in_ok-run.ensures.fit.differ)

pub returns-clause-may : goal.returns-clause-may
returns-clause-may g c =
    let nodes = c.args.g.nodes in
    let items = c.in_ok-run.run'.outs.items in
    let many = length-map items arc_value ∙ c.in_ok-run.ensures.many in
    let new = c.in_ok-made.ensures.1 ∙ ap (λ o. new_nodes o nodes (map arc_value items)) c.axis.ensures in
    let within =
    subst (λ o. IsWithinLimits (new_nodes o nodes (map arc_value items))) c.axis.ensures c.in_ok-made.ensures.0 in
    let accepts = g.M.BottomUp.accepts c.args.rule.now in
    subst (λ (l : List (Node _)). MayRun accepts l) (sym new)
    (may_still accepts nodes _ c.requires.may
    (modules_after nodes (map arc_value items) many
    (g.M.BottomUp.splits_along c.args.rule.now) c.splits_keep_modules.ensures c.new_payloads_keep_modules.ensures
    c.requires.may.numbered c.in_ok-run.ensures.fit.differ within))

pub returns-clause-free : goal.returns-clause-free
returns-clause-free g c =
    let nodes = c.args.g.nodes in
    let items = c.in_ok-run.run'.outs.items in
    let along = g.M.BottomUp.splits_along c.args.rule.now in
    let many = length-map items arc_value ∙ c.in_ok-run.ensures.many in
    let new = c.in_ok-made.ensures.1 ∙ ap (λ o. new_nodes o nodes (map arc_value items)) c.axis.ensures in
    subst (λ (l : List (Node _)). StayFree along nodes l) (sym new)
    (free_after nodes
    (map arc_value items) many along c.other_axes_stay_free.ensures c.new_payloads_leave_axes_free.ensures)
