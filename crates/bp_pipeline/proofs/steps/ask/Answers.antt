use Rattle.std.proofs.Common.{List, None, Option, Result, Ok, Err, length, sym, subst}
use Rattle.bp_faults.specs.declared.fault.Fault.{Fault}
use Rattle.bp_faults.specs.declared.ids.NodeId.{NodeId}
use Rattle.bp_faults.specs.Answers.{Tells}
use Rattle.bp_props.specs.declared.module.Module.{Module}
use Rattle.graph_nodes.specs.declared.graph.Graph.{Graph}
use Rattle.graph_nodes.specs.declared.graph.Node.{Node}
use Rattle.graph_nodes.specs.declared.variations.Axis.{Axis}
use Rattle.module_graph.specs.declared.direction.Direction.TheVariants.{BottomUp}
use Rattle.module_graph.specs.Planned.{plan_of}
use Rattle.mutator_kinds.specs.declared.pass_graph.PassGraph.{PassGraph}
use Rattle.mutator_kinds.specs.BottomUp.{BottomUpMeans}
use Rattle.mutator_rules.specs.declared.request.Request.{Request}
use Rattle.reverse_deps.specs.Applied.{ApplyMeans, AskInside}
use Rattle.bp_pipeline.specs.Limits.{ComesTo}
use Rattle.bp_pipeline.specs.Passes.{AnswerOver}
use Rattle.bp_pipeline.specs.Runs.{TellsPass}
use Rattle.bp_pipeline.proofs.Keeping.{asked_inside, applied_free, few_asked}
use Rattle.bp_pipeline.proofs.Passing.{first_refuses, next_tells}
use Rattle.bp_pipeline.proofs.steps.ask.Goals as goal

abbrev Asked : Type 0 → Type 0
Asked P = List (Node P) × List (NodeId × Request)

abbrev First : {P : Type 0} → List Module → AnswerOver P → List (Node P) → Option Axis → Result (Asked P) Fault → Type 0
First mods answer nodes along outcome = ComesTo mods (BottomUpMeans answer nodes along) outcome

pub returns-in_err-made-clause-tells : goal.returns-in_err-made-clause-tells
returns-in_err-made-clause-tells g c =
    let mods = c.args.shop.now.mods.now in
    let answer = g.M.BottomUp.meaning c.args.rule.now in
    let nodes = c.args.graph.nodes in
    let here : TellsPass c.args.shop.now.way {T = PassGraph _} {V = Asked _} (λ made. (made.graph.nodes, made.asked))
    (First mods answer nodes None) (plan_of BottomUp nodes) c.args.pass c.args.journal.now.items
    c.run_rule.new.journal.items (Err c.in_err-made.field-0.0) =
    subst (λ along. TellsPass c.args.shop.now.way {T = PassGraph _} {V = Asked _}
    (λ made. (made.graph.nodes, made.asked)) (First mods answer nodes along) (plan_of BottomUp nodes) c.args.pass
    c.args.journal.now.items c.run_rule.new.journal.items (Err c.in_err-made.field-0.0))
    c.requires.along c.in_err-made.ensures.tells in
    first_refuses c.args.shop.now.way (plan_of BottomUp nodes) c.args.pass c.args.journal.now.items
    {T = PassGraph _} {U = Graph _} {A = Asked _} (λ made. (made.graph.nodes, made.asked)) (λ g. g.nodes)
    (First mods answer nodes None) (λ made. ApplyMeans mods made.0 made.1)
    c.run_rule.new.journal.items c.in_err-made.field-0.0 c.from_residual.result c.from_residual.ensures.1
    here

pub with_asked-requires-clause-asking : goal.with_asked-requires-clause-asking
with_asked-requires-clause-asking g c =
    let mods = c.args.shop.now.mods.now in
    let answer = g.M.BottomUp.meaning c.args.rule.now in
    let made = c.in_ok-made.made in
    let here : First mods answer c.args.graph.nodes None (Ok (made.graph.nodes, made.asked)) =
    subst (λ along. First mods answer c.args.graph.nodes along (Ok (made.graph.nodes, made.asked)))
    c.requires.along c.in_ok-made.ensures.tells.1 in
    subst (AskInside (length made.graph.nodes)) (sym c.as_slice.ensures)
    (asked_inside c.outs_are_many.ensures mods answer c.args.graph.nodes (made.graph.nodes, made.asked) here)

pub with_asked-requires-clause-edges : goal.with_asked-requires-clause-edges
with_asked-requires-clause-edges g c =
    let mods = c.args.shop.now.mods.now in
    let answer = g.M.BottomUp.meaning c.args.rule.now in
    let made = c.in_ok-made.made in
    few_asked mods answer c.args.graph.nodes (made.graph.nodes, made.asked)
    (subst (λ along. First mods answer c.args.graph.nodes along (Ok (made.graph.nodes, made.asked)))
    c.requires.along c.in_ok-made.ensures.tells.1)

pub returns-clause-tells : goal.returns-clause-tells
returns-clause-tells g c =
    let mods = c.args.shop.now.mods.now in
    let answer = g.M.BottomUp.meaning c.args.rule.now in
    let nodes = c.args.graph.nodes in
    let made = c.in_ok-made.made in
    let here : First mods answer nodes None (Ok (made.graph.nodes, made.asked)) =
    subst (λ along. First mods answer nodes along (Ok (made.graph.nodes, made.asked)))
    c.requires.along c.in_ok-made.ensures.tells.1 in
    next_tells c.args.shop.now.way (plan_of BottomUp nodes) c.args.pass c.args.journal.now.items
    {T = PassGraph _} {U = Graph _} {A = Asked _} (λ made. (made.graph.nodes, made.asked)) (λ g. g.nodes)
    (First mods answer nodes None) (λ made. ApplyMeans mods made.0 made.1)
    c.run_rule.new.journal.items made (c.in_ok-made.ensures.tells.0, here) c.with_asked.result
    (subst (λ asked. Tells {T = Graph _} (λ g. g.nodes) (ApplyMeans mods made.graph.nodes asked) c.with_asked.result)
    c.as_slice.ensures c.with_asked.ensures.means)

pub returns-clause-free : goal.returns-clause-free
returns-clause-free g c =
    applied_free (g.M.BottomUp.splits_along c.args.rule.now) c.args.graph.nodes c.in_ok-made.made.graph.nodes
    c.requires.along c.in_ok-made.ensures.free c.with_asked.result c.with_asked.ensures.bare
