use Rattle.std.proofs.Common.{rules, ◌≡◌, sym, subst}
use Rattle.bp_props.specs.Groups.{Ascends, groups_merged, EachMerged}
use Rattle.bp_props.proofs.Each.{each_merged}
use Rattle.bp_props.proofs.groups.Groups.merged.Goals as goal

pub returns-clause-each : goal.returns-clause-each
returns-clause-each c =
    let done : c.put_all.new.self ≡ groups_merged c.args.winner c.args.self.now c.args.others.now = search rules in
    let ascends : Ascends c.args.others.now = subst Ascends c.others.view_is c.others.invariant in
    subst (EachMerged c.args.winner c.args.self.now c.args.others.now) (sym done)
    (each_merged c.args.winner c.args.self.now c.args.others.now ascends)
