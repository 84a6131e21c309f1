use Rattle.std.proofs.Common.{List, Ok, subst, sym}
use Rattle.graph_nodes.specs.declared.graph.Node.{Node}
use Rattle.graph_nodes.specs.declared.variation.Variation.{Variation}
use Rattle.module_graph.specs.declared.direction.Direction.TheVariants.{TopDown}
use Rattle.module_graph.specs.Graphs.{IsValid}
use Rattle.module_graph.specs.Planned.{plan_of}
use Rattle.pass_ways.specs.Ways.{RefusesPass}
use Rattle.variant_graphs.specs.declared.error.StepError.TheVariants.{Kind}
use Rattle.variant_graphs.specs.Laws.{HasModulesOf}
use Rattle.variant_graphs.specs.Splitting.{splitting}
use Rattle.variant_graphs.specs.Steps.{AnswersStep}
use Rattle.transition_rules.specs.declared.wants_pass.WantedGraph.{WantedGraph}
use Rattle.transition_rules.specs.Passes.{wanted_variants, WantsMeans, WantsMean}
use Rattle.transition_rules.proofs.Answered.{handed, may_run_on}
use Rattle.transition_rules.proofs.Steps.{split_failed}
use Rattle.transition_rules.proofs.wants_pass.run_wants_by.Goals as goal

pub returns-in_err-graph-clause-means : goal.returns-in_err-graph-clause-means
returns-in_err-graph-clause-means g c =
    let m = g.M.Transition.meaning c.args.rule.now in
    let nodes = c.args.g.nodes in
    let wants = subst (λ (l : List (List Variation)). WantsMeans m nodes (Ok l)) (sym c.in_ok-lists.ensures)
    c.in_ok-run.ensures.0 in
    let Refuses = RefusesPass c.args.way.now c.args.before.now c.args.pass (plan_of TopDown nodes) in
    let view = λ (made : WantedGraph _). made.graph.nodes in
    handed (AnswersStep view (WantsMean m nodes) Refuses) (Kind c.in_err-graph.field-0.0)
    c.from_residual-in_err-graph.result c.from_residual-in_err-graph.ensures.0 c.from_residual-in_err-graph.ensures.1
    (split_failed m nodes c.in_ok-lists.lists.items wants view Refuses c.in_err-graph.field-0.0 c.in_err-graph.ensures)

pub returns-clause-means : goal.returns-clause-means
returns-clause-means g c =
    let m = g.M.Transition.meaning c.args.rule.now in
    let nodes = c.args.g.nodes in
    let wants = subst (λ (l : List (List Variation)). WantsMeans m nodes (Ok l)) (sym c.in_ok-lists.ensures)
    c.in_ok-run.ensures.0 in
    (c.in_ok-lists.lists.items, wants, c.in_ok-graph.ensures.1, c.in_ok-graph.ensures.0)

pub returns-clause-valid : goal.returns-clause-valid
returns-clause-valid g c =
    let m = g.M.Transition.meaning c.args.rule.now in
    let nodes = c.args.g.nodes in
    let lists = c.in_ok-lists.lists.items in
    let wants = subst (λ (l : List (List Variation)). WantsMeans m nodes (Ok l)) (sym c.in_ok-lists.ensures)
    c.in_ok-run.ensures.0 in
    subst (λ (l : List (Node _)). IsValid l) (sym c.in_ok-graph.ensures.0)
    (c.splits_stay_valid.ensures (splitting (wanted_variants m nodes) lists) nodes c.requires.valid c.requires.free
    (c.wants_split.ensures m nodes lists c.requires.may.numbered c.requires.valid c.requires.differ wants))

pub returns-clause-may : goal.returns-clause-may
returns-clause-may g c =
    let m = g.M.Transition.meaning c.args.rule.now in
    let nodes = c.args.g.nodes in
    let lists = c.in_ok-lists.lists.items in
    let wants = subst (λ (l : List (List Variation)). WantsMeans m nodes (Ok l)) (sym c.in_ok-lists.ensures)
    c.in_ok-run.ensures.0 in
    may_run_on (g.M.Transition.accepts c.args.rule.now) nodes c.in_ok-graph.graph.nodes c.requires.may
    (subst (λ (l : List (Node _)). HasModulesOf nodes l) (sym c.in_ok-graph.ensures.0)
    (c.splits_keep_modules.ensures (splitting (wanted_variants m nodes) lists) nodes c.requires.may.numbered
    (c.wants_split.ensures m nodes lists c.requires.may.numbered c.requires.valid c.requires.differ wants)
    c.in_ok-graph.ensures.1))
