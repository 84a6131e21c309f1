use Rattle.std.proofs.Common.{◌≡◌, map}
use Rattle.std.specs.List.{range_with_len}
use Rattle.mutator_tests.specs.Kinds.{numbered_variant}
use Rattle.mutator_tests.proofs.kinds.numbered.Given as goal

abbrev pub invariant-loop-i : goal.invariant-loop-i
invariant-loop-i l = l.variants.items ≡ map numbered_variant (range_with_len 0 l.i)
