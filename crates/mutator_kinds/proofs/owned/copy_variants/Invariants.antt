use Rattle.std.proofs.Common.{◌≡◌, take}
use Rattle.mutator_kinds.proofs.owned.copy_variants.Given as goal

abbrev pub invariant-loop-variant : goal.invariant-loop-variant
invariant-loop-variant g l = l.copies.items ≡ take l.variant-index l.variants
