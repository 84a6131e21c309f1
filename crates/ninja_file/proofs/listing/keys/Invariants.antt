use Rattle.std.proofs.Common.{◌≡◌, map, take}
use Rattle.std.specs.Map.{keys_of}
use Rattle.ninja_file.proofs.listing.keys.Given as goal

-- the first keys are listed
abbrev pub invariant-loop-key : goal.invariant-loop-key
invariant-loop-key g l = map (λ t. t.now) l.keys.items ≡ keys_of (take l.key-index l.pairs)
