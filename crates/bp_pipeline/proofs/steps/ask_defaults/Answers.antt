use Rattle.std.proofs.Common.{List, length, subst, sym}
use Rattle.bp_props.specs.declared.module.Module.{Module}
use Rattle.bp_props.specs.declared.props.Props.{Props}
use Rattle.graph_nodes.specs.declared.graph.Graph.{Graph}
use Rattle.graph_nodes.specs.declared.graph.Node.{Node}
use Rattle.module_graph.specs.declared.direction.Direction.TheVariants.{BottomUp}
use Rattle.module_graph.specs.Planned.{plan_of}
use Rattle.module_rules.specs.Rules.{asks}
use Rattle.mutator_rules.specs.Conditions.{MayRun, indices_in}
use Rattle.defaults_mutator.specs.Asked.{defaults_asked}
use Rattle.bp_pipeline.specs.Passes.{AskMeans}
use Rattle.bp_pipeline.specs.Runs.{TellsPass}
use Rattle.bp_pipeline.proofs.steps.ask_defaults.Goals as goal

pub leaves_all-idle-requires : goal.leaves_all-idle-requires
leaves_all-idle-requires g c =
    subst (λ (ms : List Module). MayRun (indices_in (length ms)) c.args.graph.nodes) (sym c.new-rule.ensures)
    c.requires.may.usable.may

pub ask-requires-clause-alone : goal.ask-requires-clause-alone
ask-requires-clause-alone g c = λ κs outlives idle. c.leaves_all-idle.ensures.alone idle

pub returns-clause-tells : goal.returns-clause-tells
returns-clause-tells g c =
    let nodes = c.args.graph.nodes in
    subst (λ (ms : List Module). TellsPass c.args.shop.now.way {T = Graph Props} {V = List (Node Props)} (λ g. g.nodes)
    (AskMeans c.args.shop.now.mods.now (asks defaults_asked ms) nodes) (plan_of BottomUp nodes) c.args.pass
    c.args.journal.now.items c.ask.new.journal.items c.ask.result)
    c.new-rule.ensures c.ask.ensures.tells
