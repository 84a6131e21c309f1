use Rattle.std.proofs.Common.{◌∙◌, List, map, subst, sym}
use Rattle.std.specs.Arc.{arc_value}
use Rattle.std.proofs.lemmas.List.{length-map}
use Rattle.graph_nodes.specs.declared.graph.Node.{Node}
use Rattle.module_graph.specs.declared.direction.Direction.TheVariants.{BottomUp}
use Rattle.module_graph.specs.Graphs.{IsValid}
use Rattle.module_graph.specs.Planned.{plan_of}
use Rattle.variant_graphs.specs.Laws.{HasModulesOf}
use Rattle.transition_rules.proofs.Answered.{may_run_on}
use Rattle.transition_rules.proofs.mutate_pass.run_mutate_by.Goals as goal

pub renew-requires : goal.renew-requires
renew-requires g c =
    let outs = c.in_ok-run.run'.outs.items in
    sym (length-map outs arc_value)
    ∙ c.outs_are_many.ensures ((g.M.Transition.meaning c.args.rule.now).mutate c.args.g.nodes)
    (plan_of BottomUp c.args.g.nodes) (map arc_value outs) c.in_ok-run.ensures.0

pub returns-clause-valid : goal.returns-clause-valid
returns-clause-valid g c =
    subst (λ (l : List (Node _)). IsValid l) (sym c.in_ok-graph.ensures)
    (c.new_payloads_stay_valid.ensures c.args.g.nodes (map arc_value c.in_ok-run.run'.outs.items) c.requires.valid)

pub returns-clause-may : goal.returns-clause-may
returns-clause-may g c =
    may_run_on (g.M.Transition.accepts c.args.rule.now) c.args.g.nodes c.in_ok-graph.graph.nodes c.requires.may
    (subst (λ (l : List (Node _)). HasModulesOf c.args.g.nodes l) (sym c.in_ok-graph.ensures)
    (c.new_payloads_keep_modules.ensures c.args.g.nodes (map arc_value c.in_ok-run.run'.outs.items)
    c.requires.may.numbered))
