use Rattle.std.proofs.Common.{rules, sym, subst}
use Rattle.order_text.proofs.Read.{IsRead, read_more, read_all, lines_few}
use Rattle.order_text.proofs.lines.order_lines.Goals as goal

pub loop-rest-preserved : goal.loop-rest-preserved
loop-rest-preserved c =
    let bytes = c.args.bytes.now in
    let so_far = c.loop-rest.lines.items in
    let line = c.first_line.result.0.now in
    let behind = c.first_line.result.1.now in
    subst (λ lines. IsRead bytes lines behind) (sym c.in_ok-push.ensures.items)
    (read_more bytes so_far c.loop-rest.rest.now line behind c.in_ok-order_line.field-0 c.loop-rest.invariant
    (search rules)
    c.first_line.ensures c.in_ok-order_line.ensures)

pub returns-clause-lines : goal.returns-clause-lines
returns-clause-lines c =
    read_all c.args.bytes.now c.loop-rest.lines.items c.loop-rest.rest.now c.loop-rest.invariant (search rules)

pub returns-clause-few : goal.returns-clause-few
returns-clause-few c =
    let bytes = c.args.bytes.now in
    let lines = c.loop-rest.lines.items in
    lines_few bytes lines (read_all bytes lines c.loop-rest.rest.now c.loop-rest.invariant (search rules))
