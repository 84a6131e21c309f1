use Rattle.std.proofs.Common.{sym, ap, ◌∙◌, option_map, Some, subst, IsUtf8}
use native.Mathlib.Nat.{sub-zero}
use Rattle.std.proofs.lemmas.Str.{IsCharBoundary-before_ascii, IsCharBoundary-after_ascii}
use Rattle.ninja_read.specs.Inside.{built_pieces, dollar_at}
use Rattle.ninja_read.proofs.SignRead.{dollar_ascii, run_refused, run_put, last_run_put}
use Rattle.ninja_read.proofs.value.rule_value.Goals as goal

pub range-requires-clause-end_boundary : goal.range-requires-clause-end_boundary
range-requires-clause-end_boundary c =
    IsCharBoundary-before_ascii c.loop-at.rest.now c.loop-at.at c.loop-at-test.true
    (dollar_ascii c.loop-at.rest.now c.loop-at.at c.loop-at.invariant.1 c.loop-at-test.true)

pub range_from-requires : goal.range_from-requires
range_from-requires c =
    λ _. IsCharBoundary-after_ascii c.loop-at.rest.now c.loop-at.at c.loop-at.invariant.0 c.loop-at-test.true
    (dollar_ascii c.loop-at.rest.now c.loop-at.at c.loop-at.invariant.1 c.loop-at-test.true)

pub returns-in_default : goal.returns-in_default
returns-in_default c =
    sym (ap (option_map (built_pieces c.loop-at.pieces)) (run_refused c.loop-at.rest.now c.range_from.result.now
    c.loop-at.at c.loop-at.invariant.1 c.loop-at-test.true c.range_from.ensures.value c.in_default.ensures.sign))
    ∙ c.loop-at.invariant.2

pub loop-at-preserved : goal.loop-at-preserved
loop-at-preserved c = (
  subst IsUtf8 c.as_bytes-in-loop-at.ensures.value c.as_bytes-in-loop-at.ensures.utf8,
  c.dollar_at-at-in-loop-at.ensures ∙ ap dollar_at c.as_bytes-in-loop-at.ensures.value,
  run_put c.loop-at.pieces c.put_text.new.self c.put.new.self c.loop-at.rest.now c.range.result.now
      c.range_from.result.now c.in-Some.behind.now c.args.written.now c.in-Some.sign c.loop-at.at c.loop-at.invariant.1
      c.loop-at-test.true (rw sub-zero at c.range.ensures.value) c.range_from.ensures.value c.in-Some.ensures.sign
      c.in_ok-put_text.ensures c.in_ok-put.ensures c.loop-at.invariant.2,
)

pub returns : goal.returns
returns c =
    ap Some c.in_ok-pieces.ensures
    ∙ last_run_put c.loop-at.pieces c.put_text-2.new.self c.loop-at.rest.now c.args.written.now c.loop-at.at
    c.loop-at.invariant.1 c.loop-at-test.false c.in_ok-put_text-2.ensures c.loop-at.invariant.2
