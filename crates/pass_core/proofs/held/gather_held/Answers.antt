use Rattle.std.proofs.Common.{◌∙◌, ◌++◌, [], ◌∷◌, ap, map, sym, subst, Some}
use Rattle.std.specs.Arc.{arc_value}
use Rattle.std.proofs.lemmas.List.{map-append}
use Rattle.pass_core.specs.CoreKept.{shown_in}
use Rattle.pass_core.specs.CoreStates.{result_in}
use Rattle.serial_pass.specs.Results.{IsDone}
use Rattle.pass_core.proofs.HeldOuts.{outs_more, outs_none}
use Rattle.pass_core.proofs.held.gather_held.Goals as goal

pub returns-in_default : goal.returns-in_default
returns-in_default g c =
    sym (outs_none (λ h. result_in (Some (shown_in h))) c.args.held.now c.loop-result.result-index c.result-item.result
    c.loop-result-test.true
    (λ done. subst (λ h. IsDone (result_in (Some (shown_in h)))) (sym c.result-item.is ∙ c.in_default.is) done))

pub returns-in-Bad : goal.returns-in-Bad
returns-in-Bad g c =
    sym (outs_none (λ h. result_in (Some (shown_in h))) c.args.held.now c.loop-result.result-index c.result-item.result
    c.loop-result-test.true
    (λ done. subst (λ h. IsDone (result_in (Some (shown_in h))))
    (sym c.result-item.is ∙ c.in-Some.is ∙ ap Some c.in-Bad.is) done))

pub returns-in-Poisoned : goal.returns-in-Poisoned
returns-in-Poisoned g c =
    sym (outs_none (λ h. result_in (Some (shown_in h))) c.args.held.now c.loop-result.result-index c.result-item.result
    c.loop-result-test.true
    (λ done. subst (λ h. IsDone (result_in (Some (shown_in h))))
    (sym c.result-item.is ∙ c.in-Some.is ∙ ap Some c.in-Poisoned.is) done))

pub loop-result-preserved : goal.loop-result-preserved
loop-result-preserved g c =
    outs_more (λ h. result_in (Some (shown_in h))) c.args.held.now c.loop-result.result-index c.result-item.result
    c.loop-result-test.true (map arc_value c.loop-result.ins.items) (arc_value c.in-Done.out)
    (ap (λ h. result_in (Some (shown_in h)))
    (sym c.result-item.is ∙ c.in-Some.is ∙ ap Some c.in-Done.is)) c.loop-result.invariant
    ∙ sym (ap (λ l. Some (map arc_value l)) c.in_ok-push-in-Done.ensures.items
    ∙ ap Some (map-append arc_value c.loop-result.ins.items (c.in_ok-try_clone-in-Done.field-0 ∷ []))
    ∙ ap (λ o. Some (map arc_value c.loop-result.ins.items ++ o ∷ [])) c.in_ok-try_clone-in-Done.ensures)
