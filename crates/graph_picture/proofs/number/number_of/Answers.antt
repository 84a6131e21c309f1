use Rattle.std.proofs.Common.{◌≡◌, arith, ap, sym, ◌∙◌}
use Rattle.std.specs.Fmt.{decimal}
use Rattle.std.proofs.lemmas.Bool.{both_ways}
use Rattle.std.proofs.lemmas.Fmt.{parse-decimal}
use Rattle.std.proofs.lemmas.Slice.Eq.{bytes_eq-Decides}
use Rattle.graph_picture.proofs.number.number_of.Goals as goal

pub returns-in_default : goal.returns-in_default
returns-in_default c = λ n lt is.
    c.in_default.not-Ok n
    (parse-decimal 32 n c.args.text.now c.parse.result lt (omega arith) is c.parse.ensures.value.0)

pub returns : goal.returns
returns c = λ n lt is.
    let parsed = parse-decimal 32 n c.args.text.now c.parse.result lt (omega arith) is c.parse.ensures.value.0 in
    let same : n ≡ c.in-Ok.number = cc in
    let printed = c.as_str.ensures.value ∙ c.in_ok-printed.ensures.ok in
    both_ways _ (sym c.if-eq.ensures)
    ((bytes_eq-Decides c.as_str.result.now c.args.text.now).1 (printed ∙ (ap decimal (sym same) ∙ sym is)))
