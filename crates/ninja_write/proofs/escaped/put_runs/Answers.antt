use Rattle.std.proofs.Common.{◌≡◌, ◌++◌, ◌∷◌, ◌∙◌, ap, sym}
use Rattle.ninja_write.specs.Escaped.{escaped_bytes}
use Rattle.ninja_write.proofs.Grows.{refused, finished, one_more}
use Rattle.ninja_write.proofs.Boundaries.{cut_before, cut_behind, rest_utf8}
use Rattle.ninja_write.proofs.Runs.{IsSplit, split_from_position, escaped-none}
use Rattle.bp_faults.specs.Characters.{dollar}
use Rattle.ninja_write.proofs.escaped.put_runs.Goals as goal

pub split_at-requires : goal.split_at-requires
split_at-requires c = cut_before c.args.escape c.loop-at.rest.now c.in-Some.at (cc)

pub split_at-requires-in-Some : goal.split_at-requires-in-Some
split_at-requires-in-Some c =
    cut_behind c.args.escape c.loop-at.rest.now c.split_at.result.1.now c.in-Some.at
    (cc) c.split_at.ensures.back c.loop-at.invariant.0

pub returns-in_err-put_run : goal.returns-in_err-put_run
returns-in_err-put_run c =
    let h : IsSplit c.args.escape c.loop-at.rest.now c.in-Some.at = split_from_position _ _ _ (cc) in
    let t : escaped_bytes c.args.escape c.loop-at.rest.now
    ≡ (c.split_at.result.0.now ++ (dollar ∷ c.split_at-in-Some.result.0.now))
    ++ escaped_bytes c.args.escape c.split_at-in-Some.result.1.now = cc h.text in
    refused c.from_residual.result _ c.from_residual.ensures.1
    (ap (λ x. c.loop-at.output ++ x) (sym t) ∙ c.loop-at.invariant.1) c.in_err-put_run.ensures

pub loop-at-preserved : goal.loop-at-preserved
loop-at-preserved c =
    let h : IsSplit c.args.escape c.loop-at.rest.now c.in-Some.at = split_from_position _ _ _ (cc) in
    let t : escaped_bytes c.args.escape c.loop-at.rest.now
    ≡ (c.split_at.result.0.now ++ (dollar ∷ c.split_at-in-Some.result.0.now))
    ++ escaped_bytes c.args.escape c.split_at-in-Some.result.1.now = cc h.text in (
      rest_utf8 c.args.escape c.loop-at.rest.now c.split_at.result.1.now c.split_at-in-Some.result.1.now c.in-Some.at
          (cc) c.split_at.ensures.back c.split_at-in-Some.ensures.back c.loop-at.invariant.0,
      one_more _ _ _ _ _ _ c.in_ok-put_run.ensures.ok t c.loop-at.invariant.1,
    )

pub returns : goal.returns
returns c =
    finished c.put.result (ap (λ x. c.loop-at.output ++ x) (sym (escaped-none c.args.escape c.loop-at.rest.now (cc)))
    ∙ c.loop-at.invariant.1) c.put.ensures
