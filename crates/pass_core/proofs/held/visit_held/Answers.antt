use Rattle.std.proofs.Common.{◌∙◌, ap, sym, subst, map, Some, Ok, Err}
use Rattle.std.proofs.lemmas.List.{length-map}
use Rattle.pass_core.specs.CoreKept.{shown_in}
use Rattle.pass_core.specs.CoreStates.{result_in}
use Rattle.serial_pass.specs.Results.{Done, judged_result}
use Rattle.pass_core.proofs.HeldOuts.{none_gathered, passed_many, judged_gathered}
use Rattle.pass_core.proofs.held.visit_held.Goals as goal

pub returns-in_default : goal.returns-in_default
returns-in_default g c =
    sym (ap (judged_result (g.V.Visit.meaning c.args.v.now c.args.n.0)) (none_gathered
    (map (λ h. result_in (Some (shown_in h))) c.args.held.now) c.in_ok-ins.field-0 c.in_ok-ins.ensures c.in_default.is))

pub visit-requires : goal.visit-requires
visit-requires g c =
    subst (λ k. g.V.Visit.takes c.args.v.now c.args.n.0 k)
    (sym (passed_many (map (λ h. result_in (Some (shown_in h))) c.args.held.now) c.in_ok-ins.field-0 c.in_ok-ins.ensures
    c.in-Some.ins c.in-Some.is c.deref.result.now c.deref.ensures.value
    ∙ length-map c.args.held.now (λ h. result_in (Some (shown_in h))))) c.requires

pub returns-in-Ok : goal.returns-in-Ok
returns-in-Ok g c =
    ap Done c.in_ok-new-in-Ok.ensures.ok
    ∙ judged_gathered (map (λ h. result_in (Some (shown_in h))) c.args.held.now) c.in_ok-ins.field-0 c.in_ok-ins.ensures
    c.in-Some.ins c.in-Some.is c.deref.result.now c.deref.ensures.value
    (g.V.Visit.meaning c.args.v.now c.args.n.0) (Ok c.in-Ok.out) c.in-Ok.ensures

pub returns-in-Err-Bad : goal.returns-in-Err-Bad
returns-in-Err-Bad g c =
    rw c.in-Err-Bad.field-0-is (judged_gathered (map (λ h. result_in (Some (shown_in h))) c.args.held.now)
    c.in_ok-ins.field-0 c.in_ok-ins.ensures c.in-Some.ins c.in-Some.is c.deref.result.now c.deref.ensures.value
    (g.V.Visit.meaning c.args.v.now c.args.n.0) (Err c.in-Err-Bad.fault)
    (rw c.in-Err-Bad.field-0-is at c.in-Err-Bad.ensures))
