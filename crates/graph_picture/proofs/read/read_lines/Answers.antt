use Rattle.std.proofs.Common.{rules}
use Rattle.graph_picture.proofs.ByLine.{few_read, stops_open, stops_stray}
use Rattle.graph_picture.proofs.read.read_lines.Goals as goal

pub overflow_add-line : goal.overflow_add-line
overflow_add-line c =
    let bytes = c.args.bytes.now in
    let few = few_read bytes c.loop-rest.variants.items c.loop-rest.rest.now c.loop-rest.line c.loop-rest.invariant
    (search rules) in
    search rules

pub returns-in_default : goal.returns-in_default
returns-in_default c =
    stops_open c.args.bytes.now c.loop-rest.variants.items c.loop-rest.rest.now c.loop-rest.line c.loop-rest.invariant
    (search rules) c.in_default.ensures

pub returns-then-not-branch : goal.returns-then-not-branch
returns-then-not-branch c =
    stops_stray c.args.bytes.now c.loop-rest.variants.items c.loop-rest.rest.now c.loop-rest.line c.loop-rest.invariant
    (search rules) c.in-Some.first.now c.in-Some.behind.now c.in-Some.ensures
    (rw c.if-not-branch.true at c.in_ok-put_line.ensures)
