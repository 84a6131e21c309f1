use Rattle.std.proofs.Common.{List, length, refl}
use Rattle.bp_faults.specs.declared.ids.NodeId.{NodeId}
use Rattle.graph_nodes.specs.declared.graph.Node.{Node}
use Rattle.module_graph.specs.declared.direction.Direction.TheVariants.{BottomUp}
use Rattle.module_graph.specs.Planned.{plan_of}
use Rattle.mutator_kinds.specs.declared.pass_graph.PassGraph.{PassGraph}
use Rattle.mutator_kinds.specs.BottomUp.{BottomUpMeans}
use Rattle.mutator_rules.specs.declared.request.Request.{Request}
use Rattle.bp_pipeline.proofs.Keeping.{may_indices}
use Rattle.bp_pipeline.proofs.Passing.{pass_ended, pass_made}
use Rattle.bp_pipeline.proofs.steps.run_rule.Goals as goal

pub returns-in_ok-note-in-Ok-clause-tells : goal.returns-in_ok-note-in-Ok-clause-tells
returns-in_ok-note-in-Ok-clause-tells g c =
    pass_made c.args.shop.now.way (plan_of BottomUp c.args.graph.nodes) c.args.pass c.as_slice.result.now
    c.args.journal.now.items c.as_slice.ensures.value {T = PassGraph _} {U = PassGraph _}
    {V = List (Node _) × List (NodeId × Request)} (λ made. (made.graph.nodes, made.asked))
    (λ made. (made.graph.nodes, made.asked)) (λ made. made.order)
    c.args.shop.now.mods.now
    (BottomUpMeans (g.M.BottomUp.meaning c.args.rule.now) c.args.graph.nodes
    (g.M.BottomUp.splits_along c.args.rule.now))
    c.in-Ok.made c.in-Ok.made refl c.in-Ok.ensures.means c.in-Ok.ensures.followed c.as_slice-in-Ok.result.now
    c.as_slice-in-Ok.ensures c.note.new.journal.items c.in_ok-note-in-Ok.ensures

pub returns-in_ok-note-in-Ok-clause-usable : goal.returns-in_ok-note-in-Ok-clause-usable
returns-in_ok-note-in-Ok-clause-usable g c = record {
  valid = c.in-Ok.ensures.valid;
  may =
      may_indices (g.M.BottomUp.accepts c.args.rule.now) (length c.args.shop.now.mods.now) c.in-Ok.made.graph.nodes
      c.requires.accepts c.in-Ok.ensures.may;
}

pub returns-in-Err-clause-tells : goal.returns-in-Err-clause-tells
returns-in-Err-clause-tells g c =
    pass_ended c.args.shop.now.way (plan_of BottomUp c.args.graph.nodes) c.args.pass c.as_slice.result.now
    c.args.journal.now.items c.as_slice.ensures.value {T = PassGraph _} {U = PassGraph _}
    {V = List (Node _) × List (NodeId × Request)} (λ made. (made.graph.nodes, made.asked))
    (λ made. (made.graph.nodes, made.asked)) (λ made. made.order)
    c.args.shop.now.mods.now
    (BottomUpMeans (g.M.BottomUp.meaning c.args.rule.now) c.args.graph.nodes
    (g.M.BottomUp.splits_along c.args.rule.now))
    c.in-Err.error c.refusal_of.result c.args.journal.now.items c.in-Err.ensures.means c.in-Err.ensures.followed
    c.refusal_of.ensures
