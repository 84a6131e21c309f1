use Rattle.std.proofs.Common.{◌≡◌, false, length, arith}
use native.Mathlib.Nat.{sub-zero}
use Rattle.std.proofs.lemmas.List.{map-append}
use Rattle.std.proofs.lemmas.Str.{IsCharBoundary-before_ascii, IsCharBoundary-after_ascii}
use Rattle.ninja_lines.proofs.Cuts.{part_put, last_put, ends_before_ascii, reach_within}
use Rattle.ninja_lines.proofs.cut.parts_at.Goals as goal

pub range-requires-clause-end_boundary : goal.range-requires-clause-end_boundary
range-requires-clause-end_boundary c =
    IsCharBoundary-before_ascii c.loop-end.rest.now c.loop-end.end c.loop-end-test.true (ends_before_ascii c.args.at
    c.loop-end.rest.now c.loop-end.end c.loop-end.invariant.1 c.loop-end-test.true c.requires)

pub range_from-rest-requires : goal.range_from-rest-requires
range_from-rest-requires c =
    λ _. IsCharBoundary-after_ascii c.loop-end.rest.now c.loop-end.end c.loop-end.invariant.0 c.loop-end-test.true
    (ends_before_ascii c.args.at c.loop-end.rest.now c.loop-end.end c.loop-end.invariant.1 c.loop-end-test.true
    c.requires)

pub loop-end-preserved : goal.loop-end-preserved
loop-end-preserved c =
    let put = part_put c.args.at c.loop-end.rest.now c.args.text.now _ c.loop-end.end c.loop-end.invariant.1
    c.loop-end-test.true c.loop-end.invariant.2 in (
      c.range_from-rest.utf8,
      cc,
      rw (c.in_ok-push.ensures.items, map-append, c.range.ensures.value, c.range_from-rest.ensures.value, sub-zero) put,
    )

pub returns : goal.returns
returns c =
    let within = reach_within c.args.at false c.loop-end.rest.now in
    let end : c.loop-end.end ≡ length c.loop-end.rest.now =
    omega (arith, c.loop-end-test.false, c.loop-end.invariant.1) in
    rw (c.in_ok-push-2.ensures.items, map-append) (last_put c.args.at c.loop-end.rest.now c.args.text.now _
    c.loop-end.end c.loop-end.invariant.1 end c.loop-end.invariant.2)
