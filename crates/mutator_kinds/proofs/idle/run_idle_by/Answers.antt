use Rattle.std.proofs.Common.{◌∙◌, subst, sym, List}
use Rattle.bp_faults.specs.declared.ids.NodeId.{NodeId}
use Rattle.module_graph.specs.declared.direction.Direction.TheVariants.{BottomUp}
use Rattle.module_graph.specs.Planned.{plan_of}
use Rattle.mutator_rules.specs.declared.request.Request.{Request}
use Rattle.mutator_rules.specs.Idle.{left_alone}
use Rattle.mutator_rules.specs.Outcomes.{Made}
use Rattle.pass_ways.specs.Ways.{RefusesPass}
use Rattle.mutator_kinds.specs.declared.pass_graph.PassGraph.{PassGraph}
use Rattle.mutator_kinds.specs.BottomUp.{BottomUpMeans}
use Rattle.mutator_kinds.proofs.IdleEnds.{limits_followed, way_ends}
use Rattle.mutator_kinds.proofs.LeftAlone.{graph_kept, kept_alone, limits_end}
use Rattle.mutator_kinds.proofs.idle.run_idle_by.Goals as goal

pub returns-in_err-run-clause-means : goal.returns-in_err-run-clause-means
returns-in_err-run-clause-means g c =
    let nodes = c.args.g.nodes in
    (way_ends {T = PassGraph _} (λ made. made.order) c.args.way.now (plan_of BottomUp nodes) c.args.pass
    c.args.before.now (λ made. (made.graph.nodes, made.asked))
    (BottomUpMeans (g.M.BottomUp.meaning c.args.rule.now) nodes (g.M.BottomUp.splits_along c.args.rule.now))
    c.in_err-run.field-0.0 c.from_residual.result c.in_err-run.ensures c.from_residual.ensures.0
    c.from_residual.ensures.1).0

pub returns-in_err-run-clause-followed : goal.returns-in_err-run-clause-followed
returns-in_err-run-clause-followed g c =
    let nodes = c.args.g.nodes in
    (way_ends {T = PassGraph _} (λ made. made.order) c.args.way.now (plan_of BottomUp nodes) c.args.pass
    c.args.before.now (λ made. (made.graph.nodes, made.asked))
    (BottomUpMeans (g.M.BottomUp.meaning c.args.rule.now) nodes (g.M.BottomUp.splits_along c.args.rule.now))
    c.in_err-run.field-0.0 c.from_residual.result c.in_err-run.ensures c.from_residual.ensures.0
    c.from_residual.ensures.1).1

pub returns-in_err-check_limits-clause-means : goal.returns-in_err-check_limits-clause-means
returns-in_err-check_limits-clause-means g c =
    let mean = g.M.BottomUp.meaning c.args.rule.now in
    let along = g.M.BottomUp.splits_along c.args.rule.now in
    let nodes = c.args.g.nodes in
    let visits = c.idle_passes_make.ensures BottomUp nodes (mean nodes) left_alone c.requires.may.numbered
    c.requires.valid (λ n ins x at inside. c.requires.alone n ins x at) in
    let kept = kept_alone c.splits_of_one_keep.ensures along nodes c.requires.valid.ends c.requires.free in
    limits_end mean nodes visits along kept {T = PassGraph _} (λ made. (made.graph.nodes, made.asked))
    (RefusesPass c.args.way.now c.args.before.now c.args.pass (plan_of BottomUp nodes))
    c.in_err-check_limits.field-0.0 c.from_residual-in_err-check_limits.result
    c.in_err-check_limits.ensures c.from_residual-in_err-check_limits.ensures.0
    c.from_residual-in_err-check_limits.ensures.1

pub returns-in_err-check_limits-clause-followed : goal.returns-in_err-check_limits-clause-followed
returns-in_err-check_limits-clause-followed g c =
    limits_followed {T = PassGraph _} (λ made. made.order) c.args.way.now (plan_of BottomUp c.args.g.nodes)
    c.args.pass c.args.before.now c.in_err-check_limits.field-0.0 c.from_residual-in_err-check_limits.result
    c.in_ok-run.run'.order c.in_ok-run.ensures.0 c.from_residual-in_err-check_limits.ensures.0
    c.from_residual-in_err-check_limits.ensures.1

pub returns-clause-means : goal.returns-clause-means
returns-clause-means g c =
    let mean = g.M.BottomUp.meaning c.args.rule.now in
    let along = g.M.BottomUp.splits_along c.args.rule.now in
    let nodes = c.args.g.nodes in
    let visits = c.idle_passes_make.ensures BottomUp nodes (mean nodes) left_alone c.requires.may.numbered
    c.requires.valid (λ n ins x at inside. c.requires.alone n ins x at) in
    let kept = kept_alone c.splits_of_one_keep.ensures along nodes c.requires.valid.ends c.requires.free in
    subst (λ (asked : List (NodeId × Request)). BottomUpMeans mean nodes along (Made (nodes, asked)))
    (sym (c.new-2.ensures ∙ c.new.ensures.items))
    (graph_kept mean nodes visits along kept c.in_ok-check_limits.ensures)

pub returns-clause-free : goal.returns-clause-free
returns-clause-free g c = λ axis other free. free
