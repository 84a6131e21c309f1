use Rattle.std.proofs.Common.{◌≡◌, map}
use Rattle.linkage_mutator.specs.Links.{pic_if_linked}
use Rattle.linkage_mutator.proofs.link_split.link_variants.Given as goal

abbrev pub invariant-loop-variant : goal.invariant-loop-variant
invariant-loop-variant l = l.variants ≡ map pic_if_linked l.yielded
