use Rattle.std.proofs.Common.{◌≡◌, drop}
use Rattle.std.specs.List.{find}
use Rattle.reverse_deps.specs.Inside.{is_wanted_at}
use Rattle.reverse_deps.proofs.directory.first_wanted.Given as goal

abbrev pub invariant-loop-member : goal.invariant-loop-member
invariant-loop-member g l =
    find (is_wanted_at l.g.nodes l.want) (drop l.member-index l.members)
    ≡ find (is_wanted_at l.g.nodes l.want) l.members
