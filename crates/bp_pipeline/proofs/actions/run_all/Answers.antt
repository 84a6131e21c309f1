use Rattle.std.proofs.Common.{Vec, arith, map}
use Rattle.std.specs.Arc.{arc_value}
use Rattle.std.specs.Global.{Global}
use Rattle.std.specs.declared.sync.Arc.{Arc}
use Rattle.build_actions.specs.declared.actions.Actions.{Actions}
use Rattle.module_graph.specs.declared.direction.Direction.TheVariants.{BottomUp}
use Rattle.module_graph.specs.Planned.{plan_of}
use Rattle.bp_pipeline.proofs.Visited.{visits_more}
use Rattle.bp_pipeline.proofs.Whole.{actions_refused, all_run, mutators_refused}
use Rattle.bp_pipeline.proofs.actions.run_all.Goals as goal

pub returns-in_err-graph-clause-run : goal.returns-in_err-graph-clause-run
returns-in_err-graph-clause-run g c =
    mutators_refused c.args.shop.now.mods.now c.args.shop.now.config.now c.args.shop.now.way
    c.run_mutators.new.journal.items c.in_err-graph.field-0.0 c.from_residual.result
    c.from_residual.ensures.1 c.in_err-graph.ensures.course

pub returns-in_err-made-clause-run : goal.returns-in_err-made-clause-run
returns-in_err-made-clause-run g c =
    actions_refused c.args.shop.now.mods.now c.args.shop.now.config.now c.args.shop.now.way
    {T = Vec (Arc Actions Global) Global} (λ made. map arc_value made.items) c.in_ok-graph.graph.nodes
    c.run_mutators.new.journal.items c.run_actions.new.journal.items c.in_ok-graph.ensures.course.0
    c.in_err-made.field-0.0 c.from_residual-in_err-made.result c.from_residual-in_err-made.ensures.1
    c.in_err-made.ensures

pub returns-clause-run : goal.returns-clause-run
returns-clause-run g c =
    all_run c.args.shop.now.mods.now c.args.shop.now.config.now c.args.shop.now.way
    {T = Vec (Arc Actions Global) Global} (λ made. map arc_value made.items) c.in_ok-graph.graph.nodes
    c.run_mutators.new.journal.items c.run_actions.new.journal.items c.in_ok-graph.ensures.course.0
    c.in_ok-made.made c.in_ok-made.ensures

pub returns-clause-visits : goal.returns-clause-visits
returns-clause-visits g c =
    visits_more (plan_of BottomUp c.in_ok-graph.graph.nodes) 13 c.run_mutators.new.journal.items
    c.run_actions.new.journal.items c.in_ok-graph.ensures.usable.may.numbered.few_nodes (omega arith)
    c.in_ok-made.ensures.0.0 c.in_ok-graph.ensures.visits
