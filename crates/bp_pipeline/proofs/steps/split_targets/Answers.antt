use Rattle.std.proofs.Common.{List, Some, subst, sym}
use Rattle.bp_props.specs.declared.module.Module.{Module}
use Rattle.bp_props.specs.declared.props.Props.{Props}
use Rattle.graph_nodes.specs.declared.graph.Graph.{Graph}
use Rattle.graph_nodes.specs.declared.graph.Node.{Node}
use Rattle.graph_nodes.specs.declared.variations.Axis.TheVariants.{Target}
use Rattle.module_graph.specs.declared.direction.Direction.TheVariants.{BottomUp}
use Rattle.module_graph.specs.Planned.{plan_of}
use Rattle.mutator_kinds.specs.BottomUp.{ResultsDiffer}
use Rattle.mutator_rules.specs.declared.config.Config.{Config}
use Rattle.module_rules.specs.Rules.{splits}
use Rattle.target_mutators.specs.Arch.{arch_variants}
use Rattle.bp_pipeline.specs.Passes.{MakeMeans}
use Rattle.bp_pipeline.specs.Runs.{TellsPass}
use Rattle.bp_pipeline.proofs.steps.split_targets.Goals as goal

pub make-requires-clause-differ : goal.make-requires-clause-differ
make-requires-clause-differ g c κs within =
    subst (λ (rule : List Module × Config). ResultsDiffer (splits (arch_variants rule.1) rule.0) c.args.graph.nodes)
    (sym c.new-rule.ensures)
    (c.target_variants_differ.ensures c.args.shop.now.config.now c.args.shop.now.mods.now c.args.graph.nodes
    c.requires.may.start.targets)

pub returns-clause-tells : goal.returns-clause-tells
returns-clause-tells g c =
    let nodes = c.args.graph.nodes in
    subst (λ (rule : List Module × Config). TellsPass c.args.shop.now.way {T = Graph Props} {V = List (Node Props)}
    (λ g. g.nodes) (MakeMeans c.args.shop.now.mods.now (Some Target) (splits (arch_variants rule.1) rule.0) nodes)
    (plan_of BottomUp nodes) c.args.pass c.args.journal.now.items c.make.new.journal.items c.make.result)
    c.new-rule.ensures c.make.ensures.tells
