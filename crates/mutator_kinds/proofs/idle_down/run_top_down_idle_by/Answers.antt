use Rattle.std.proofs.Common.{map}
use Rattle.graph_nodes.specs.declared.graph.Node.{Node}
use Rattle.module_graph.specs.declared.direction.Direction.TheVariants.{TopDown}
use Rattle.module_graph.specs.Planned.{plan_of}
use Rattle.mutator_kinds.specs.declared.pass_graph.PassGraph.{PassGraph}
use Rattle.mutator_kinds.specs.TopDown.{from_above, TopDownMeans}
use Rattle.mutator_kinds.proofs.IdleEnds.{way_ends}
use Rattle.mutator_kinds.proofs.LeftAlone.{with_own}
use Rattle.mutator_kinds.proofs.idle_down.run_top_down_idle_by.Goals as goal

pub returns-in_err-run-clause-means : goal.returns-in_err-run-clause-means
returns-in_err-run-clause-means g c =
    let nodes = c.args.g.nodes in
    (way_ends {T = PassGraph _} (λ made. made.order) c.args.way.now (plan_of TopDown nodes) c.args.pass
    c.args.before.now (λ made. made.graph.nodes) (TopDownMeans (g.M.TopDown.meaning c.args.rule.now) nodes)
    c.in_err-run.field-0.0 c.from_residual.result c.in_err-run.ensures c.from_residual.ensures.0
    c.from_residual.ensures.1).0

pub returns-in_err-run-clause-followed : goal.returns-in_err-run-clause-followed
returns-in_err-run-clause-followed g c =
    let nodes = c.args.g.nodes in
    (way_ends {T = PassGraph _} (λ made. made.order) c.args.way.now (plan_of TopDown nodes) c.args.pass
    c.args.before.now (λ made. made.graph.nodes) (TopDownMeans (g.M.TopDown.meaning c.args.rule.now) nodes)
    c.in_err-run.field-0.0 c.from_residual.result c.in_err-run.ensures c.from_residual.ensures.0
    c.from_residual.ensures.1).1

pub returns-clause-means : goal.returns-clause-means
returns-clause-means g c =
    let nodes = c.args.g.nodes in
    let own = λ (x : Node _). x.payload in (
      map own nodes,
      c.idle_passes_make.ensures TopDown nodes (from_above (g.M.TopDown.meaning c.args.rule.now) nodes) own
          c.requires.may.numbered c.requires.valid c.requires.keeps,
      with_own nodes,
    )

pub returns-clause-free : goal.returns-clause-free
returns-clause-free g c = λ axis other free. free
