use Rattle.std.proofs.Common.{List, subst, sym}
use Rattle.bp_props.specs.declared.module.Module.{Module}
use Rattle.bp_props.specs.declared.props.Props.{Props}
use Rattle.build_actions.specs.Acts.{acts_at}
use Rattle.graph_nodes.specs.declared.graph.Graph.{Graph}
use Rattle.module_graph.specs.declared.direction.Direction.TheVariants.{BottomUp}
use Rattle.serial_pass.specs.declared.plan.Plan.{Plan}
use Rattle.serial_pass.specs.Plans.{HasNoCycle}
use Rattle.pass_ways.specs.Ways.{AnswersWay}
use Rattle.bp_pipeline.proofs.actions.act.Goals as goal

pub run_by_way-requires-clause-free : goal.run_by_way-requires-clause-free
run_by_way-requires-clause-free g c =
    λ κs lives.
    subst (λ (p : Plan). HasNoCycle p.edges) (sym c.in_ok-plan.ensures.exact)
    (c.valid_plans_have_no_cycle.ensures c.args.graph.now.nodes BottomUp c.requires.may.usable.valid)

pub returns : goal.returns
returns g c =
    let nodes = c.args.graph.now.nodes in
    let mods = c.args.shop.now.mods.now in
    let visit = c.new-visit.result in
    let plan = c.in_ok-plan.plan in
    subst (λ (p : Plan). AnswersWay c.args.shop.now.way (acts_at mods nodes) p 13 c.args.before.now c.run_by_way.result)
    c.in_ok-plan.ensures.exact
    (subst (λ (ms : List Module). AnswersWay c.args.shop.now.way (acts_at ms nodes) plan 13 c.args.before.now
    c.run_by_way.result)
    c.new-visit.ensures.modules
    (subst (λ (graph : Graph Props). AnswersWay c.args.shop.now.way (acts_at visit.modules.now graph.nodes) plan 13
    c.args.before.now c.run_by_way.result)
    c.new-visit.ensures.graph c.run_by_way.ensures))
