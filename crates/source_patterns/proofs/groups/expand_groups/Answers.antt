use Rattle.std.proofs.Common.{◌≡◌, ◌∙◌, ◌<◌, ap, length, set, subst, arith}
use Rattle.std.specs.Prelude.{IfSome, Ok, Err}
use Rattle.std.specs.List.{HoldsAt}
use Rattle.std.proofs.lemmas.Result.{err_from_is_err_and}
use Rattle.bp_faults.specs.Phases.{Then}
use Rattle.source_patterns.specs.Answers.{ExpandGives}
use Rattle.source_patterns.specs.Expansion.{KeyedGroupMeans}
use Rattle.source_patterns.specs.Walked.{GroupWalks}
use Rattle.source_patterns.proofs.Gives.{if_both}
use Rattle.source_patterns.proofs.InPlace.{done_set, done_set_stops}
use Rattle.source_patterns.proofs.groups.expand_groups.Goals as goal

pub returns-in_err-expand_at-clause-gives : goal.returns-in_err-expand_at-clause-gives
returns-in_err-expand_at-clause-gives g c =
    let dir = c.args.dir.now in
    let i = c.loop-index.index in
    let groups = c.loop-index.groups in
    let within : i < length c.args.groups.now =
    omega (arith, c.loop-index.invariant.1, ap length c.as_slice-index-end.ensures) in
    let refused = err_from_is_err_and c.from_residual.result c.from_residual.ensures.1 in
    rw (refused.1, refused.2)
    (if_both (g.D.Directories.held c.args.dirs.now) _ _ _ (λ held done given.
    done_set_stops (KeyedGroupMeans held dir) (λ e. GroupWalks held dir e.1) c.args.groups.now i groups within done
    (Unit {0}) c.expand_at.new.groups (λ (done : Unit {0}). c.expand_at.new.groups) c.in_err-expand_at.field-0.0 given)
    c.loop-index.invariant.0
    (subst (λ o. IfSome o (λ held. HoldsAt (λ e. ExpandGives (λ (done : Unit {0}). c.expand_at.new.groups)
    (Then (KeyedGroupMeans held dir e) (λ more o. Ok (set groups i more) ≡ o)) (GroupWalks held dir e.1)
    (Err c.in_err-expand_at.field-0.0)) groups i)) c.loop-index.invariant.2 c.in_err-expand_at.ensures.gives))

pub loop-index-preserved : goal.loop-index-preserved
loop-index-preserved g c =
    let dir = c.args.dir.now in
    let i = c.loop-index.index in
    let groups = c.loop-index.groups in
    let within : i < length c.args.groups.now =
    omega (arith, c.loop-index.invariant.1, ap length c.as_slice-index-end.ensures) in (
      if_both (g.D.Directories.held c.args.dirs.now) _ _ _ (λ held done given.
          done_set (KeyedGroupMeans held dir) (λ e. GroupWalks held dir e.1) c.args.groups.now i groups within done
          c.expand_at.new.groups c.in_ok-expand_at.field-0 given)
          c.loop-index.invariant.0
          (subst (λ o. IfSome o (λ held. HoldsAt (λ e. ExpandGives (λ (done : Unit {0}). c.expand_at.new.groups)
          (Then (KeyedGroupMeans held dir e) (λ more o. Ok (set groups i more) ≡ o)) (GroupWalks held dir e.1)
          (Ok c.in_ok-expand_at.field-0)) groups i)) c.loop-index.invariant.2 c.in_ok-expand_at.ensures.gives),
      c.expand_at.ensures.size ∙ c.loop-index.invariant.1,
      c.expand_at.ensures.held ∙ c.loop-index.invariant.2,
      omega (arith, c.loop-index.invariant.3, c.expand_at.ensures.cause.later),
      c.expand_at.ensures.kept ∙ c.loop-index.invariant.4,
      c.expand_at.ensures.ready,
    )
