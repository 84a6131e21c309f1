use Rattle.std.proofs.Common.{◌<◌, ◌≤◌, length, arith, length-take-le, sym}
use Rattle.std.proofs.lemmas.Bool.Decides.{nat_tests}
use Rattle.std.proofs.lemmas.List.{map-append}
use Rattle.ninja_lines.proofs.LinesRead.{line_put, line_length_within}
use Rattle.ninja_lines.proofs.joined_lines.lines.Goals as goal

pub slice_bounds-push-end : goal.slice_bounds-push-end
slice_bounds-push-end c =
    let within : c.line_length-end.result ≤ length c.loop-rest.rest.now =
    omega (arith, line_length_within c.loop-rest.rest.now, c.line_length-end.ensures) in
    sym (length-take-le _ _ within)

pub loop-rest-preserved : goal.loop-rest-preserved
loop-rest-preserved c =
    let test = c.loop-rest-test.ensures in
    let some : 0 < length c.loop-rest.rest.now = grind (arith, nat_tests) in
    let put = line_put c.loop-rest.rest.now c.args.text.now _ c.line_length-end.result c.line_length-end.ensures some
    c.loop-rest.invariant in
    rw (c.in_ok-push.ensures.items, map-append, c.behind_line-rest.ensures) put
