use Rattle.std.proofs.Common.{◌≡◌, drop}
use Rattle.bp_props.specs.Groups.{groups_merged}
use Rattle.bp_props.proofs.groups.Groups.put_all.Given as goal

-- the groups so far, with those that are left, come to what all come to
abbrev pub invariant-loop-pair : goal.invariant-loop-pair
invariant-loop-pair l =
    groups_merged l.winner l.self (drop l.pair-index l.others) ≡ groups_merged l.winner l.initial.self l.others
