use Rattle.std.proofs.Common.{ap, arith, length, refl}
use Rattle.order_text.proofs.Numbers.{empty_is_none, first_of, signed_is_none, zero_alone, parsed_is}
use Rattle.order_text.proofs.entry.number_of.Goals as goal

pub returns-in_err-first : goal.returns-in_err-first
returns-in_err-first c =
    let text = c.args.text.now in
    rw c.from_residual.ensures
    (empty_is_none text (omega (arith, ap length c.as_bytes.ensures.value, c.in_err-first.ensures.item)))

pub returns-in-43 : goal.returns-in-43
returns-in-43 c =
    let text = c.args.text.now in
    let first = c.in_ok-first in
    signed_is_none text
    (first_of text c.as_bytes.result.now first.field-0.now 43 c.as_bytes.ensures.value first.ensures.value c.in-43.is)

pub returns-in-48 : goal.returns-in-48
returns-in-48 c =
    let text = c.args.text.now in
    let first = c.in_ok-first in
    rw c.then_some.ensures
    (zero_alone text _
    (first_of text c.as_bytes.result.now first.field-0.now 48 c.as_bytes.ensures.value first.ensures.value c.in-48.is)
    refl)

pub returns-in_default : goal.returns-in_default
returns-in_default c =
    let text = c.args.text.now in
    let byte = c.in_ok-first.field-0.now in
    let bytes = c.as_bytes.result.now in
    let first = first_of text bytes byte byte c.as_bytes.ensures.value c.in_ok-first.ensures.value refl in
    rw c.ok.ensures.value
    (parsed_is text c.parse.result (λ e. absurd (omega arith)) (λ e. absurd (omega arith)) c.parse.ensures.value.0)
