use Rattle.std.proofs.Common.{◌∙◌, ap, sym, subst, map, length, Ok, Err}
use Rattle.std.specs.Arc.{arc_value}
use Rattle.std.proofs.lemmas.List.{length-map}
use Rattle.serial_pass.specs.Results.{all_outs}
use Rattle.serial_pass.specs.Results.NodeResult.{Done, Bad}
use Rattle.visit_workers.specs.Settled.{outcomes}
use Rattle.visit_workers.proofs.Judging.{poisoned, visited, as_many, told_none, told_some}
use Rattle.visit_workers.proofs.judge.judge.Goals as goal

pub returns-then-not-branch : goal.returns-then-not-branch
returns-then-not-branch g c =
    sym (poisoned c.results_meet_their_equation.ensures (g.V.Visit.meaning c.args.pass.now.visitor.now)
    c.args.pass.now.plan.now c.requires.pass.is_plan c.requires.pass.free c.args.n.0 c.requires.inside c.args.ins.now
    c.requires.values (told_none c.in_ok-all_done.field-0 (map arc_value c.all_done.new.outs.items) c.if-not-branch.true
    (all_outs (outcomes c.args.ins.now)) c.in_ok-all_done.ensures))

pub visit-requires : goal.visit-requires
visit-requires g c =
    let many = as_many c.results_meet_their_equation.ensures (g.V.Visit.meaning c.args.pass.now.visitor.now)
    c.args.pass.now.plan.now c.requires.pass.is_plan c.requires.pass.free c.args.n.0 c.requires.inside
    c.args.ins.now c.requires.values (map arc_value c.all_done.new.outs.items)
    (told_some c.in_ok-all_done.field-0 (map arc_value c.all_done.new.outs.items) c.if-not-branch.false
    (all_outs (outcomes c.args.ins.now)) c.in_ok-all_done.ensures) in
    subst (λ k. g.V.Visit.takes c.args.pass.now.visitor.now c.args.n.0 k)
    (sym many ∙ length-map c.all_done.new.outs.items arc_value ∙ ap length (sym c.as_slice.ensures.value))
    (c.requires.pass.takes_plan c.args.n.0 c.requires.inside)

pub returns-in_ok-new-in-Ok : goal.returns-in_ok-new-in-Ok
returns-in_ok-new-in-Ok g c =
    ap Done c.in_ok-new-in-Ok.ensures.ok
    ∙ sym (visited c.results_meet_their_equation.ensures (g.V.Visit.meaning c.args.pass.now.visitor.now)
    c.args.pass.now.plan.now c.requires.pass.is_plan c.requires.pass.free c.args.n.0 c.requires.inside
    c.args.ins.now c.requires.values (map arc_value c.all_done.new.outs.items)
    (told_some c.in_ok-all_done.field-0 (map arc_value c.all_done.new.outs.items) c.if-not-branch.false
    (all_outs (outcomes c.args.ins.now)) c.in_ok-all_done.ensures) (Ok c.in-Ok.out)
    (ap (λ l. g.V.Visit.meaning c.args.pass.now.visitor.now c.args.n.0 (map arc_value l))
    (sym c.as_slice.ensures.value) ∙ c.in-Ok.ensures))

pub returns-in_ok-new-in-Err-Bad : goal.returns-in_ok-new-in-Err-Bad
returns-in_ok-new-in-Err-Bad g c =
    let told = rw c.in-Err-Bad.field-0-is at c.in-Err-Bad.ensures in
    ap Bad (c.in_ok-new-in-Err-Bad.ensures.ok ∙ c.in-Err-Bad.fault-is)
    ∙ sym (visited c.results_meet_their_equation.ensures (g.V.Visit.meaning c.args.pass.now.visitor.now)
    c.args.pass.now.plan.now c.requires.pass.is_plan c.requires.pass.free c.args.n.0 c.requires.inside
    c.args.ins.now c.requires.values (map arc_value c.all_done.new.outs.items)
    (told_some c.in_ok-all_done.field-0 (map arc_value c.all_done.new.outs.items) c.if-not-branch.false
    (all_outs (outcomes c.args.ins.now)) c.in_ok-all_done.ensures) (Err c.in-Err-Bad.fault)
    (ap (λ l. g.V.Visit.meaning c.args.pass.now.visitor.now c.args.n.0 (map arc_value l))
    (sym c.as_slice.ensures.value) ∙ told))
