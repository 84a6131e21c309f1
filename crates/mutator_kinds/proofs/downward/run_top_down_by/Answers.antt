use Rattle.std.proofs.Common.{◌∙◌, subst, sym, map, List}
use Rattle.std.specs.Arc.{arc_value}
use Rattle.std.proofs.lemmas.List.{length-map}
use Rattle.graph_nodes.specs.declared.graph.Node.{Node}
use Rattle.module_graph.specs.declared.direction.Direction.TheVariants.{TopDown}
use Rattle.module_graph.specs.Planned.{plan_of}
use Rattle.mutator_rules.specs.Conditions.{MayRun}
use Rattle.mutator_kinds.specs.TopDown.{from_above, TopDownMeans}
use Rattle.mutator_kinds.proofs.Ended.{pass_ends, pass_followed}
use Rattle.mutator_kinds.proofs.May.{may_still}
use Rattle.mutator_kinds.proofs.downward.run_top_down_by.Goals as goal

pub renew-requires : goal.renew-requires
renew-requires g c =
    sym (length-map c.in_ok-run.run'.outs.items arc_value)
    ∙ c.outs_are_many.ensures (from_above (g.M.TopDown.meaning c.args.rule.now) c.args.g.nodes)
    (plan_of TopDown c.args.g.nodes) (map arc_value c.in_ok-run.run'.outs.items) c.in_ok-run.ensures.0

pub returns-in_err-run-clause-means : goal.returns-in_err-run-clause-means
returns-in_err-run-clause-means g c =
    pass_ends c.args.way.now (from_above (g.M.TopDown.meaning c.args.rule.now) c.args.g.nodes)
    (plan_of TopDown c.args.g.nodes) c.args.pass c.args.before.now _
    (TopDownMeans (g.M.TopDown.meaning c.args.rule.now) c.args.g.nodes) (λ n fault h. h) c.in_err-run.field-0.0
    c.from_residual.result c.in_err-run.ensures
    c.from_residual.ensures.0 c.from_residual.ensures.1

pub returns-in_err-run-clause-followed : goal.returns-in_err-run-clause-followed
returns-in_err-run-clause-followed g c =
    pass_followed c.args.way.now (from_above (g.M.TopDown.meaning c.args.rule.now) c.args.g.nodes)
    (plan_of TopDown c.args.g.nodes) c.args.pass c.args.before.now _
    c.in_err-run.field-0.0 c.from_residual.result c.in_err-run.ensures
    c.from_residual.ensures.0 c.from_residual.ensures.1

pub returns-clause-may : goal.returns-clause-may
returns-clause-may g c =
    subst (λ (l : List (Node _)). MayRun (g.M.TopDown.accepts c.args.rule.now) l) (sym c.in_ok-graph.ensures)
    (may_still (g.M.TopDown.accepts c.args.rule.now) c.args.g.nodes _ c.requires.may
    (c.new_payloads_keep_modules.ensures c.args.g.nodes _ c.requires.may.numbered))
