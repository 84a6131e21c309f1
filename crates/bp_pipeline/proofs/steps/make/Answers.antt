use Rattle.std.proofs.Common.{◌≡◌, List, Result, Ok, refl}
use Rattle.bp_faults.specs.declared.fault.Fault.{Fault}
use Rattle.bp_faults.specs.declared.ids.NodeId.{NodeId}
use Rattle.graph_nodes.specs.declared.graph.Graph.{Graph}
use Rattle.graph_nodes.specs.declared.graph.Node.{Node}
use Rattle.module_graph.specs.declared.direction.Direction.TheVariants.{BottomUp}
use Rattle.module_graph.specs.Planned.{plan_of}
use Rattle.mutator_kinds.specs.declared.pass_graph.PassGraph.{PassGraph}
use Rattle.mutator_kinds.specs.BottomUp.{BottomUpMeans}
use Rattle.mutator_rules.specs.declared.request.Request.{Request}
use Rattle.bp_pipeline.specs.Limits.{ComesTo}
use Rattle.bp_pipeline.proofs.Passing.{first_refuses}
use Rattle.bp_pipeline.proofs.steps.make.Goals as goal

abbrev Asked : Type 0 → Type 0
Asked P = List (Node P) × List (NodeId × Request)

pub returns-in_err-made-clause-tells : goal.returns-in_err-made-clause-tells
returns-in_err-made-clause-tells g c =
    let nodes = c.args.graph.nodes in
    first_refuses c.args.shop.now.way (plan_of BottomUp nodes) c.args.pass c.args.journal.now.items
    {T = PassGraph _} {U = Graph _} {A = Asked _} (λ made. (made.graph.nodes, made.asked)) (λ g. g.nodes)
    (ComesTo c.args.shop.now.mods.now
    (BottomUpMeans (g.M.BottomUp.meaning c.args.rule.now) nodes (g.M.BottomUp.splits_along c.args.rule.now)))
    (λ made (outcome : Result (List (Node _)) Fault). Ok made.0 ≡ outcome) c.run_rule.new.journal.items
    c.in_err-made.field-0.0 c.from_residual.result c.from_residual.ensures.1 c.in_err-made.ensures.tells

pub returns-clause-tells : goal.returns-clause-tells
returns-clause-tells g c =
    let made = c.in_ok-made.made in
    (c.in_ok-made.ensures.tells.0, (Ok (made.graph.nodes, made.asked), c.in_ok-made.ensures.tells.1, refl))
