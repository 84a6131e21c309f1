use Rattle.std.proofs.Common.{◌≡◌, drop}
use Rattle.target_mutators.specs.Groups.{with_groups}
use Rattle.target_mutators.proofs.groups.append_groups.Given as goal

abbrev pub invariant-loop-id : goal.invariant-loop-id
invariant-loop-id l = record {
  left : with_groups l.all (drop l.id-index l.ids) ≡ with_groups l.fn.made l.ids;
  groups : l.all.groups ≡ l.own.groups;
}
