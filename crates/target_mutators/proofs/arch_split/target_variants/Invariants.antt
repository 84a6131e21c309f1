use Rattle.std.proofs.Common.{◌≡◌, ◌++◌, [], drop, take}
use Rattle.target_mutators.specs.Arch.{target_variants}
use Rattle.target_mutators.proofs.arch_split.target_variants.Given as goal

abbrev pub invariant-loop-index : goal.invariant-loop-index
invariant-loop-index l =
    l.variants ++ target_variants l.kind l.own (take l.index l.targets) (drop l.index l.targets)
    ≡ target_variants l.kind l.own [] l.targets
