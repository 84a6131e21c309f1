use Rattle.std.proofs.Common.{rules, drop}
use Rattle.std.proofs.lemmas.List.{take_rest}
use Rattle.bp_lexer.specs.Strings.{IsClosedAt, is_escape}
use Rattle.bp_lexer.specs.Faults.{HasFlaw}
use Rattle.bp_lexer.specs.Search.{IsBodyFlaw}
use Rattle.bp_lexer.proofs.Quotes.{quoted_longest, body_flaw}
use Rattle.bp_lexer.proofs.form.string_form.Goals as goal

pub returns : goal.returns
returns c =
    let closed : IsClosedAt is_escape (drop 1 c.args.text.now) c.in_ok-inner.inner =
    rw take_rest at c.in_ok-inner.ensures.found in
    quoted_longest c.args.text.now _ c.requires.nonempty c.requires.first closed

pub returns-in_err-inner : goal.returns-in_err-inner
returns-in_err-inner c =
    let body : IsBodyFlaw (drop 1 c.args.text.now) c.in_err-inner.field-0.0 =
    rw take_rest at c.in_err-inner.ensures.flaw in
    let wrong : HasFlaw c.args.text.now c.in_err-inner.field-0.0 =
    body_flaw c.args.text.now _ c.requires.nonempty c.requires.first body in
    search rules
