use Rattle.std.proofs.Common.{◌≡◌, drop}
use Rattle.std.specs.List.{list_any}
use Rattle.target_mutators.specs.Arch.{is_of_class}
use Rattle.target_mutators.proofs.arch_split.has_class.Given as goal

abbrev pub invariant-loop-target : goal.invariant-loop-target
invariant-loop-target l =
    list_any (is_of_class l.class) (drop l.target-index l.targets) ≡ list_any (is_of_class l.class) l.targets
