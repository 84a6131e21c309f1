use Rattle.std.proofs.Common.{◌≡◌, ◌+◌, ◌++◌, ap, subst, sym}
use Rattle.bp_load.specs.Halves.{CanParse}
use Rattle.bp_load.proofs.Joined.{taken_and_dropped}
use Rattle.bp_load.proofs.Sources.{can_front, can_back}
use Rattle.bp_load.proofs.parsing.in_two.Goals as goal

pub returns-clause-front : goal.returns-clause-front
returns-clause-front c =
    let files = c.args.files.now in
    let front = c.split_at.result.0.now in
    let back = c.split_at.result.1.now in
    let cut = c.split_at.ensures in
    let whole : front ++ back ≡ files = taken_and_dropped files front back c.cut-at.result cut.front cut.back in
    can_front c.args.number front back (subst (CanParse c.args.number) (sym whole) c.requires)

pub returns-clause-back : goal.returns-clause-back
returns-clause-back c =
    let files = c.args.files.now in
    let front = c.split_at.result.0.now in
    let back = c.split_at.result.1.now in
    let cut = c.split_at.ensures in
    let whole : front ++ back ≡ files = taken_and_dropped files front back c.cut-at.result cut.front cut.back in
    subst (λ n. CanParse n back) (ap (λ k. c.args.number + k) cut.front_len)
    (can_back c.args.number front back (subst (CanParse c.args.number) (sym whole) c.requires))
