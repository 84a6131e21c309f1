use Rattle.std.proofs.Common.{◌≡◌, take}
use Rattle.std.specs.List.{filter}
use Rattle.near_names.specs.Least.{is_within}
use Rattle.near_names.proofs.near.within_reach.Given as goal

abbrev pub invariant-loop-name : goal.invariant-loop-name
invariant-loop-name l = l.names.items ≡ filter (is_within l.word l.least) (take l.name-index l.known)
