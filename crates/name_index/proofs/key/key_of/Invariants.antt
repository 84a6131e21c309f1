use Rattle.std.proofs.Common.{◌≡◌, drop}
use Rattle.std.specs.List.{fold}
use Rattle.name_index.specs.Keys.{next_key, key_of}
use Rattle.name_index.proofs.key.key_of.Given as goal

-- the bytes that are left make the name's key of the one so far
abbrev pub invariant-loop-byte : goal.invariant-loop-byte
invariant-loop-byte l = fold next_key l.key (drop l.byte-index l.byte-items) ≡ key_of l.name
