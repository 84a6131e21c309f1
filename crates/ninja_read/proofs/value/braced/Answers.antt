use Rattle.std.proofs.Common.{◌≡◌, ◌∷◌, Some, None, lit<, sym}
use Rattle.std.proofs.lemmas.Str.Pattern.{strip_prefix_char}
use Rattle.ninja_read.proofs.SignRead.{braces_empty, braces_open, braces_closed}
use Rattle.ninja_read.proofs.value.braced.Goals as goal

pub returns-then-is_empty-clause-sign : goal.returns-then-is_empty-clause-sign
returns-then-is_empty-clause-sign c =
    braces_empty c.args.text.now c.split_name.result.0.now c.split_name.result.1.now c.split_name.ensures.0
    c.split_name.ensures.1 (sym c.if-is_empty.ensures)

pub returns-in_default-clause-sign : goal.returns-in_default-clause-sign
returns-in_default-clause-sign c =
    braces_open c.args.text.now c.split_name.result.1.now c.split_name.ensures.1
    (strip_prefix_char 125 c.split_name.result.1.now None c.in_default.ensures.cases (lit< tt))

pub returns-clause-sign : goal.returns-clause-sign
returns-clause-sign c =
    let is : c.split_name.result.1.now ≡ 125 ∷ c.in-Some.rest.now =
    strip_prefix_char 125 c.split_name.result.1.now (Some c.in-Some.rest) c.in-Some.ensures.cases (lit< tt) in
    braces_closed c.args.text.now c.split_name.result.0.now c.split_name.result.1.now c.in-Some.rest.now
    c.split_name.ensures.0 c.split_name.ensures.1 (sym c.if-is_empty.ensures) is
