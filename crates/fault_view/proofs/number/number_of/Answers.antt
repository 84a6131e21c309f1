use Rattle.std.proofs.Common.{arith, sym}
use Rattle.fault_view.proofs.Numbers.{unread_is_none, tested_is}
use Rattle.fault_view.proofs.number.number_of.Goals as goal

pub returns-in_err-number : goal.returns-in_err-number
returns-in_err-number c =
    rw c.from_residual.ensures
    (unread_is_none c.args.text.now c.parse.result c.parse.ensures.value.0 (sym c.in_err-number.ensures.value))

pub returns : goal.returns
returns c =
    rw c.then_some.ensures
    (tested_is c.args.text.now c.format.result.now c.parse.result c.in_ok-number.number _ c.parse.ensures.value.0
    (sym c.in_ok-number.ensures.value) (omega arith) c.format.ensures.text c.eq.ensures)
