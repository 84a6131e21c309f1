use Rattle.std.proofs.Common.{List, None, length, subst, sym}
use Rattle.bp_props.specs.declared.module.Module.{Module}
use Rattle.bp_props.specs.declared.props.Props.{Props}
use Rattle.graph_nodes.specs.declared.graph.Graph.{Graph}
use Rattle.graph_nodes.specs.declared.graph.Node.{Node}
use Rattle.module_graph.specs.declared.direction.Direction.TheVariants.{BottomUp}
use Rattle.module_graph.specs.Planned.{plan_of}
use Rattle.module_rules.specs.Rules.{renews}
use Rattle.mutator_rules.specs.Conditions.{MayRun, indices_in}
use Rattle.defaults_mutator.specs.Merged.{defaults_merged}
use Rattle.bp_pipeline.specs.Passes.{MakeMeans}
use Rattle.bp_pipeline.specs.Runs.{TellsPass}
use Rattle.bp_pipeline.proofs.steps.merge_defaults.Goals as goal

pub leaves_all-idle-requires : goal.leaves_all-idle-requires
leaves_all-idle-requires g c =
    subst (λ (ms : List Module). MayRun (indices_in (length ms)) c.args.graph.nodes) (sym c.new-rule.ensures)
    c.requires.may.usable.may

pub make-requires-clause-alone : goal.make-requires-clause-alone
make-requires-clause-alone g c = λ κs outlives idle. c.leaves_all-idle.ensures.alone idle

pub returns-clause-tells : goal.returns-clause-tells
returns-clause-tells g c =
    let nodes = c.args.graph.nodes in
    subst (λ (ms : List Module). TellsPass c.args.shop.now.way {T = Graph Props} {V = List (Node Props)} (λ g. g.nodes)
    (MakeMeans c.args.shop.now.mods.now None (renews defaults_merged ms) nodes) (plan_of BottomUp nodes) c.args.pass
    c.args.journal.now.items c.make.new.journal.items c.make.result)
    c.new-rule.ensures c.make.ensures.tells
