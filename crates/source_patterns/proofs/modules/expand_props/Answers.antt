use Rattle.std.proofs.Common.{inr, refl, subst}
use Rattle.std.specs.Prelude.{IfSome, Ok, Err}
use Rattle.source_patterns.specs.Answers.{ExpandGives}
use Rattle.source_patterns.specs.Expansion.{KeyedGroupMeans, GroupsMean, PropsMean}
use Rattle.source_patterns.specs.Walked.{GroupWalks, PropsWalk, WalksIn}
use Rattle.source_patterns.proofs.Gives.{if_both, ends}
use Rattle.source_patterns.proofs.modules.expand_props.Goals as goal

pub returns-clause-gives : goal.returns-clause-gives
returns-clause-gives g c =
    let dir = c.args.dir.now in
    let props = c.args.props.now in
    let base = c.expand_group.new.group in
    let groups = c.expand_groups.new.groups in
    if_both (g.D.Directories.held c.args.dirs.now) _ _ _ (λ held first given.
    ends (λ (done : Unit {0}). groups) _ (GroupsMean held dir props.groups) (PropsMean held dir props)
    (WalksIn (KeyedGroupMeans held dir) (λ e. GroupWalks held dir e.1) props.groups) (PropsWalk held dir props)
    (λ done means. (Ok base, first, (Ok groups, means, refl)))
    (λ fault means. (Ok base, first, (Err fault, means, refl)))
    (λ walked walks. inr (base, first, walks))
    c.expand_groups.result given)
    c.in_ok-expand_group.ensures.gives
    (subst (λ o. IfSome o (λ held. ExpandGives (λ (done : Unit {0}). groups) (GroupsMean held dir props.groups)
    (WalksIn (KeyedGroupMeans held dir) (λ e. GroupWalks held dir e.1) props.groups) c.expand_groups.result))
    c.in_ok-expand_group.ensures.held c.expand_groups.ensures.gives)
