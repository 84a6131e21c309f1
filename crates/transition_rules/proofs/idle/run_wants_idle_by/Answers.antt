use Rattle.module_graph.specs.declared.direction.Direction.TheVariants.{TopDown}
use Rattle.module_graph.specs.Planned.{plan_of}
use Rattle.pass_ways.specs.Ways.{RefusesPass}
use Rattle.variant_graphs.specs.declared.error.StepError.TheVariants.{Kind}
use Rattle.variant_graphs.specs.Steps.{AnswersStep}
use Rattle.transition_rules.specs.declared.wants_pass.WantedGraph.{WantedGraph}
use Rattle.transition_rules.specs.Passes.{WantsMean}
use Rattle.transition_rules.proofs.Answered.{handed}
use Rattle.transition_rules.proofs.LeftAlone.{graph_kept, limits_end}
use Rattle.transition_rules.proofs.idle.run_wants_idle_by.Goals as goal

pub returns-in_err-check_limits-clause-means : goal.returns-in_err-check_limits-clause-means
returns-in_err-check_limits-clause-means g c =
    let m = g.M.Transition.meaning c.args.rule.now in
    let nodes = c.args.g.nodes in
    let Refuses = RefusesPass c.args.way.now c.args.before.now c.args.pass (plan_of TopDown nodes) in
    let view = λ (made : WantedGraph _). made.graph.nodes in
    handed (AnswersStep view (WantsMean m nodes) Refuses) (Kind c.in_err-check_limits.field-0.0)
    c.from_residual-in_err-check_limits.result c.from_residual-in_err-check_limits.ensures.0
    c.from_residual-in_err-check_limits.ensures.1
    (limits_end m nodes c.requires.nothing c.idle_passes_make.ensures c.splits_of_one_keep.ensures
    c.requires.may.numbered c.requires.valid c.requires.free view Refuses c.in_err-check_limits.field-0.0
    c.in_err-check_limits.ensures)

pub returns-clause-means : goal.returns-clause-means
returns-clause-means g c =
    graph_kept (g.M.Transition.meaning c.args.rule.now) c.args.g.nodes c.requires.nothing c.idle_passes_make.ensures
    c.splits_of_one_keep.ensures c.requires.may.numbered c.requires.valid c.requires.free c.in_ok-check_limits.ensures
