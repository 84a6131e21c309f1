use Rattle.std.proofs.Common.{List, refl}
use Rattle.bp_props.specs.declared.props.Props.{Props}
use Rattle.graph_nodes.specs.declared.graph.Graph.{Graph}
use Rattle.graph_nodes.specs.declared.graph.Node.{Node}
use Rattle.module_graph.specs.declared.direction.Direction.TheVariants.{TopDown}
use Rattle.module_graph.specs.Planned.{plan_of}
use Rattle.info_mutators.specs.Sanitize.{sanitize_meant}
use Rattle.transition_rules.specs.declared.wants_pass.WantedGraph.{WantedGraph}
use Rattle.transition_rules.specs.Passes.{WantsMean}
use Rattle.bp_pipeline.proofs.Passing.{pass_ended, pass_made}
use Rattle.bp_pipeline.proofs.steps.split_sanitized.Goals as goal

pub returns-in_ok-note-in-Ok-clause-tells : goal.returns-in_ok-note-in-Ok-clause-tells
returns-in_ok-note-in-Ok-clause-tells g c =
    pass_made c.args.shop.now.way (plan_of TopDown c.args.graph.nodes) c.args.pass c.as_slice.result.now
    c.args.journal.now.items c.as_slice.ensures.value {T = WantedGraph Props} {U = Graph Props}
    {V = List (Node Props)} (λ made. made.graph.nodes) (λ g. g.nodes) (λ made. made.order)
    c.args.shop.now.mods.now
    (WantsMean sanitize_meant c.args.graph.nodes)
    c.in-Ok.made c.in-Ok.made.graph refl c.in-Ok.ensures.means c.in-Ok.ensures.followed c.as_slice-in-Ok.result.now
    c.as_slice-in-Ok.ensures c.note.new.journal.items c.in_ok-note-in-Ok.ensures

pub returns-in-Err-clause-tells : goal.returns-in-Err-clause-tells
returns-in-Err-clause-tells g c =
    pass_ended c.args.shop.now.way (plan_of TopDown c.args.graph.nodes) c.args.pass c.as_slice.result.now
    c.args.journal.now.items c.as_slice.ensures.value {T = WantedGraph Props} {U = Graph Props}
    {V = List (Node Props)} (λ made. made.graph.nodes) (λ g. g.nodes) (λ made. made.order)
    c.args.shop.now.mods.now
    (WantsMean sanitize_meant c.args.graph.nodes)
    c.in-Err.error c.refusal_of.result c.args.journal.now.items c.in-Err.ensures.means c.in-Err.ensures.followed
    c.refusal_of.ensures
