use Rattle.std.proofs.Common.{◌≡◌, ◌+◌, false, drop}
use Rattle.ninja_lines.specs.Inside.{reach}
use Rattle.ninja_lines.proofs.cut.reach.Given as goal

-- the whole way is what was passed and what is left
abbrev pub invariant-loop-index : goal.invariant-loop-index
invariant-loop-index l = l.index + reach l.at l.behind (drop l.index l.bytes) ≡ reach l.at false l.bytes
