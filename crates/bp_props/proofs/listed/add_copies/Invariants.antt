use Rattle.std.proofs.Common.{◌≡◌, ◌++◌, take}
use Rattle.bp_props.proofs.listed.add_copies.Given as goal

-- the items so far are put behind
abbrev pub invariant-loop-item : goal.invariant-loop-item
invariant-loop-item g l = l.items ≡ l.initial.items ++ take l.item-index l.more
