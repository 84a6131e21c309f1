use Rattle.std.proofs.Common.{◌≡◌, take}
use Rattle.bp_props.proofs.pairs.copy_pairs.Given as goal

-- the pairs so far are copied
abbrev pub invariant-loop-pair : goal.invariant-loop-pair
invariant-loop-pair l = l.copies.items ≡ take l.pair-index l.pairs
