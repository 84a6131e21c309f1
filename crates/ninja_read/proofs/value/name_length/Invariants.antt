use Rattle.std.proofs.Common.{◌≡◌, ◌+◌, drop}
use Rattle.ninja_read.specs.Values.{name_length}
use Rattle.ninja_read.proofs.value.name_length.Given as goal

-- the whole way is what was passed and what is left
abbrev pub invariant-loop-index : goal.invariant-loop-index
invariant-loop-index l = l.index + name_length (drop l.index l.bytes) ≡ name_length l.bytes
