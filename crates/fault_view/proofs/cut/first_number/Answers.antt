use Rattle.fault_view.proofs.Cuts.{uncut_is_none, unnumbered_is_none, number_is_first}
use Rattle.fault_view.proofs.cut.first_number.Goals as goal

pub returns-in_err-digits : goal.returns-in_err-digits
returns-in_err-digits c = rw c.from_residual.ensures (uncut_is_none c.args.text.now c.in_err-digits.ensures.cases)

pub returns-in_err-number : goal.returns-in_err-number
returns-in_err-number c =
    let cut = c.in_ok-digits in
    rw c.from_residual-in_err-number.ensures
    (unnumbered_is_none c.args.text.now cut.digits cut.rest cut.ensures.cases c.in_err-number.ensures)

pub returns : goal.returns
returns c =
    let cut = c.in_ok-digits in
    number_is_first c.args.text.now cut.digits cut.rest cut.ensures.cases c.in_ok-number.number c.in_ok-number.ensures
