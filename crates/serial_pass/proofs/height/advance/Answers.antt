use Rattle.std.proofs.Common.{◌++◌, ◌∷◌, [], sym, subst}
use Rattle.serial_pass.specs.declared.plan.PlanEdge.{PlanEdge}
use Rattle.serial_pass.specs.Settling.{IsAdvanced}
use Rattle.std.proofs.lemmas.Result.{on_ok_weaker}
use Rattle.serial_pass.proofs.Paths.{node_inside, node_bound, step_settled, step_height, all_ready, next_fits}
use Rattle.serial_pass.proofs.Paths.{source_inside, gone_to}
use Rattle.serial_pass.proofs.height.advance.Goals as goal

abbrev zero_edge : PlanEdge
zero_edge = record { from = record { 0 = 0 }; to = record { 0 = 0 } }

pub bounds-settled-node : goal.bounds-settled-node
bounds-settled-node c =
    node_bound c.args.plan.now c.requires.plan c.requires.free c.args.settled.now c.requires.settled
    c.args.path.now.items c.args.climb c.requires.path

pub returns-then-is_some : goal.returns-then-is_some
returns-then-is_some c =
    step_settled c.args.plan.now c.requires.plan c.requires.free c.args.settled.now c.requires.settled
    c.args.path.now.items c.args.climb c.requires.path (sym c.if-is_some.ensures)

pub edges_into-edges-requires-clause-inside : goal.edges_into-edges-requires-clause-inside
edges_into-edges-requires-clause-inside c =
    node_inside c.args.plan.now c.requires.plan c.requires.free c.args.settled.now c.requires.settled
    c.args.path.now.items c.args.climb c.requires.path

pub go_up-requires-clause-fits : goal.go_up-requires-clause-fits
go_up-requires-clause-fits c =
    next_fits c.args.plan.now c.requires.plan c.requires.free c.args.settled.now c.requires.settled
    c.args.path.now.items c.args.climb c.requires.path
    c.edges_into-edges.result.now c.edges_into-edges.ensures c.if-next-edges.true

pub go_up-requires-clause-inside : goal.go_up-requires-clause-inside
go_up-requires-clause-inside c =
    rw c.requires.settled.many (source_inside c.args.plan.now c.requires.plan c.requires.free c.args.settled.now
    c.requires.settled c.args.path.now.items c.args.climb c.requires.path
    c.edges_into-edges.result.now c.edges_into-edges.ensures zero_edge c.if-next-edges.true)

pub returns-then-next-edges : goal.returns-then-next-edges
returns-then-next-edges c =
    on_ok_weaker c.go_up.result (λ gone. subst (λ l. IsAdvanced c.args.plan.now c.args.settled.now
    (c.args.path.now.items ++ c.args.climb ∷ []) c.args.settled.now l) (sym gone)
    (gone_to c.args.plan.now c.requires.plan c.requires.free c.args.settled.now c.requires.settled c.args.path.now.items
    c.args.climb c.requires.path
    c.edges_into-edges.result.now c.edges_into-edges.ensures zero_edge c.if-next-edges.true)) c.go_up.ensures

pub height_of-requires-clause-inside : goal.height_of-requires-clause-inside
height_of-requires-clause-inside c =
    node_inside c.args.plan.now c.requires.plan c.requires.free c.args.settled.now c.requires.settled
    c.args.path.now.items c.args.climb c.requires.path

pub height_of-requires-clause-ready : goal.height_of-requires-clause-ready
height_of-requires-clause-ready c =
    all_ready c.args.plan.now c.requires.plan c.requires.free c.args.settled.now c.requires.settled
    c.args.path.now.items c.args.climb c.requires.path
    c.edges_into-edges.result.now c.edges_into-edges.ensures c.if-next-edges.false

pub bounds-settled-node-2 : goal.bounds-settled-node-2
bounds-settled-node-2 c =
    node_bound c.args.plan.now c.requires.plan c.requires.free c.args.settled.now c.requires.settled
    c.args.path.now.items c.args.climb c.requires.path

pub returns : goal.returns
returns c =
    step_height c.args.plan.now c.requires.plan c.requires.free c.args.settled.now c.requires.settled
    c.args.path.now.items c.args.climb c.requires.path c.height_of.result c.height_of.ensures
