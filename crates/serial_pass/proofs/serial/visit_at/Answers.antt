use Rattle.std.proofs.Common.{◌∙◌, ap, sym, refl, Ok, Err}
use Rattle.serial_pass.specs.Results.{Done}
use Rattle.serial_pass.proofs.Visited.{not_missing, taken_many, result_is}
use Rattle.serial_pass.proofs.Predecessors.{in_edges_below}
use Rattle.serial_pass.proofs.serial.visit_at.Goals as goal

pub gather-requires : goal.gather-requires
gather-requires g c =
    rw (c.requires.many, c.edges_into.ensures)
    (in_edges_below c.args.plan.now.count c.args.n.0 c.args.plan.now.edges c.requires.plan.ends)

pub unreachable-requires : goal.unreachable-requires
unreachable-requires g c =
    not_missing (g.V.Visit.meaning c.args.v.now) c.args.plan.now c.requires.plan c.requires.free c.args.n.0
    c.requires.inside c.args.made.now c.requires.right c.requires.ready
    c.in_ok-gather.field-0 c.gather.new.ins.items c.edges_into.result.now c.edges_into.ensures c.in_ok-gather.ensures
    c.if-not-branch.true

pub visit-requires : goal.visit-requires
visit-requires g c =
    taken_many (g.V.Visit.meaning c.args.v.now) c.args.plan.now c.requires.plan c.requires.free c.args.n.0
    c.requires.inside c.args.made.now c.requires.right c.requires.ready
    c.in_ok-gather.field-0 c.gather.new.ins.items c.edges_into.result.now c.edges_into.ensures c.in_ok-gather.ensures
    c.if-not-branch.false c.as_slice.result.now c.as_slice.ensures.value
    (λ k. g.V.Visit.takes c.args.v.now c.args.n.0 k) c.requires.takes

pub returns-in_ok-new-in-Ok : goal.returns-in_ok-new-in-Ok
returns-in_ok-new-in-Ok g c =
    result_is (g.V.Visit.meaning c.args.v.now) c.args.plan.now c.requires.plan c.requires.free c.args.n.0
    c.requires.inside c.args.made.now c.requires.right c.requires.ready
    c.in_ok-gather.field-0 c.gather.new.ins.items c.edges_into.result.now c.edges_into.ensures c.in_ok-gather.ensures
    c.if-not-branch.false c.as_slice.result.now c.as_slice.ensures.value
    (Ok c.in-Ok.out) c.in-Ok.ensures ∙ ap Done (sym c.in_ok-new-in-Ok.ensures.ok)

pub returns-in-Err-Bad : goal.returns-in-Err-Bad
returns-in-Err-Bad g c =
    let is = result_is (g.V.Visit.meaning c.args.v.now) c.args.plan.now c.requires.plan c.requires.free c.args.n.0
    c.requires.inside c.args.made.now c.requires.right c.requires.ready
    c.in_ok-gather.field-0 c.gather.new.ins.items c.edges_into.result.now c.edges_into.ensures c.in_ok-gather.ensures
    c.if-not-branch.false c.as_slice.result.now c.as_slice.ensures.value
    (Err c.in-Err-Bad.fault) (rw c.in-Err-Bad.field-0-is at c.in-Err-Bad.ensures) in
    (refl, rw c.in-Err-Bad.field-0-is is)
