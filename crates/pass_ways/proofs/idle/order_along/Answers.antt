use Rattle.std.proofs.Common.{◌≤◌, ◌∙◌, arith, length, refl, subst, sym, Err}
use Rattle.serial_pass.specs.Orders.{IsLegal, numbers}
use Rattle.pass_ways.specs.Idle.{AnswersIdleOrder}
use Rattle.pass_ways.specs.OrderFiles.{IsRefused, Say}
use Rattle.pass_ways.proofs.Refusing.{by_refusal}
use Rattle.pass_ways.proofs.Said.{say_few}
use Rattle.pass_ways.proofs.Refused.{made_along, taken_is, inside_at, few_numbers, refused_at, refused_short}
use Rattle.pass_ways.proofs.idle.order_along.Goals as goal

pub lines_from-requires : goal.lines_from-requires
lines_from-requires c =
    let e = say_few c.args.lines.now.lines.now c.args.before.now c.requires.follows in omega arith

pub returns-in-Ok : goal.returns-in-Ok
returns-in-Ok c =
    let taken = taken_is c.args.lines.now.lines.now _ _ _ _ _ c.lines_from.ensures c.in_ok-order.ensures in
    made_along c.args.lines.now.lines.now c.args.before.now c.requires.follows c.args.pass c.args.plan.now
    c.in_ok-order.order.items taken c.new.result c.new.ensures
    (subst (λ l. IsLegal c.args.plan.now (numbers l)) (c.deref-2.ensures.value ∙ sym c.new.ensures) c.in-Ok.ensures)

pub refusal_at-requires-clause-inside : goal.refusal_at-requires-clause-inside
refusal_at-requires-clause-inside c =
    let taken = taken_is c.args.lines.now.lines.now _ _ _ _ _ c.lines_from.ensures c.in_ok-order.ensures in
    let at = rw c.in-Err-NotReady.field-0-is at c.in-Err-NotReady.ensures in
    let many = few_numbers c.args.lines.now.lines.now c.args.before.now c.requires.follows c.args.pass c.args.plan.now
    c.in_ok-order.order.items taken c.deref-2.result.now c.deref-2.ensures.value in
    let few : c.in-Err-NotReady.index ≤ length c.in_ok-order.order.items = let e = at.inside in omega arith in
    inside_at c.args.lines.now.lines.now c.args.before.now c.requires.follows c.args.pass c.args.plan.now
    c.in_ok-order.order.items taken c.in-Err-NotReady.index few

pub returns-in-Err-NotReady : goal.returns-in-Err-NotReady
returns-in-Err-NotReady c =
    let lines = c.args.lines.now.lines.now in
    let taken = taken_is lines _ _ _ _ _ c.lines_from.ensures c.in_ok-order.ensures in
    let at = rw c.in-Err-NotReady.field-0-is at c.in-Err-NotReady.ensures in
    by_refusal (λ e. AnswersIdleOrder (Say lines) (IsRefused lines c.args.lines.now.file) c.args.plan.now c.args.pass
    c.args.before.now (Err e)) _ _ c.refusal_at.ensures
    (refused_at lines c.args.before.now c.requires.follows c.args.pass c.args.plan.now c.in_ok-order.order.items
    taken c.args.lines.now.file _ c.in-Err-NotReady.index (rw c.deref-2.ensures.value at at) refl) tt

pub refusal_at-requires-in-Err-Ends-clause-inside : goal.refusal_at-requires-in-Err-Ends-clause-inside
refusal_at-requires-in-Err-Ends-clause-inside c =
    let taken = taken_is c.args.lines.now.lines.now _ _ _ _ _ c.lines_from.ensures c.in_ok-order.ensures in
    let at = rw c.in-Err-Ends.field-0-is at c.in-Err-Ends.ensures in
    let many = few_numbers c.args.lines.now.lines.now c.args.before.now c.requires.follows c.args.pass c.args.plan.now
    c.in_ok-order.order.items taken c.deref-2.result.now c.deref-2.ensures.value in
    let few : c.in-Err-Ends.index ≤ length c.in_ok-order.order.items = let e = at.whole in omega arith in
    inside_at c.args.lines.now.lines.now c.args.before.now c.requires.follows c.args.pass c.args.plan.now
    c.in_ok-order.order.items taken c.in-Err-Ends.index few

pub returns-in-Err-Ends : goal.returns-in-Err-Ends
returns-in-Err-Ends c =
    let lines = c.args.lines.now.lines.now in
    let taken = taken_is lines _ _ _ _ _ c.lines_from.ensures c.in_ok-order.ensures in
    let at = rw c.in-Err-Ends.field-0-is at c.in-Err-Ends.ensures in
    by_refusal (λ e. AnswersIdleOrder (Say lines) (IsRefused lines c.args.lines.now.file) c.args.plan.now c.args.pass
    c.args.before.now (Err e)) _ _ c.refusal_at-in-Err-Ends.ensures
    (refused_short lines c.args.before.now c.requires.follows c.args.pass c.args.plan.now c.in_ok-order.order.items
    taken c.args.lines.now.file _ c.in-Err-Ends.index (rw c.deref-2.ensures.value at at) refl) tt
