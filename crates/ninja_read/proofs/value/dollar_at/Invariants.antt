use Rattle.std.proofs.Common.{◌≡◌, ◌+◌, drop}
use Rattle.ninja_read.specs.Inside.{dollar_at}
use Rattle.ninja_read.proofs.value.dollar_at.Given as goal

-- the whole way is what was passed and what is left
abbrev pub invariant-loop-index : goal.invariant-loop-index
invariant-loop-index l = l.index + dollar_at (drop l.index l.bytes) ≡ dollar_at l.bytes
