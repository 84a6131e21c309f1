use Rattle.std.proofs.Common.{List, Some, length, subst, sym}
use Rattle.bp_props.specs.declared.module.Module.{Module}
use Rattle.bp_props.specs.declared.props.Props.{Props}
use Rattle.graph_nodes.specs.declared.graph.Graph.{Graph}
use Rattle.graph_nodes.specs.declared.graph.Node.{Node}
use Rattle.graph_nodes.specs.declared.variations.Axis.TheVariants.{PerSource}
use Rattle.module_graph.specs.declared.direction.Direction.TheVariants.{BottomUp}
use Rattle.module_graph.specs.Planned.{plan_of}
use Rattle.module_rules.specs.Rules.{splits}
use Rattle.mutator_kinds.specs.BottomUp.{ResultsDiffer}
use Rattle.mutator_rules.specs.Conditions.{MayRun, indices_in}
use Rattle.linkage_mutator.specs.Sources.{source_variants}
use Rattle.bp_pipeline.specs.Passes.{MakeMeans}
use Rattle.bp_pipeline.specs.Runs.{TellsPass}
use Rattle.bp_pipeline.proofs.steps.split_sources.Goals as goal

pub leaves_all-idle-requires : goal.leaves_all-idle-requires
leaves_all-idle-requires g c =
    subst (λ (ms : List Module). MayRun (indices_in (length ms)) c.args.graph.nodes) (sym c.new-rule.ensures)
    c.requires.may.usable.may

pub make-requires-clause-differ : goal.make-requires-clause-differ
make-requires-clause-differ g c κs within =
    subst (λ (ms : List Module). ResultsDiffer (splits source_variants ms) c.args.graph.nodes) (sym c.new-rule.ensures)
    (c.source_variants_differ.ensures c.args.shop.now.mods.now c.args.graph.nodes)

pub make-requires-clause-alone : goal.make-requires-clause-alone
make-requires-clause-alone g c = λ κs outlives idle. c.leaves_all-idle.ensures.alone idle

pub returns-clause-tells : goal.returns-clause-tells
returns-clause-tells g c =
    let nodes = c.args.graph.nodes in
    subst (λ (ms : List Module). TellsPass c.args.shop.now.way {T = Graph Props} {V = List (Node Props)} (λ g. g.nodes)
    (MakeMeans c.args.shop.now.mods.now (Some PerSource) (splits source_variants ms) nodes) (plan_of BottomUp nodes)
    c.args.pass
    c.args.journal.now.items c.make.new.journal.items c.make.result)
    c.new-rule.ensures c.make.ensures.tells
