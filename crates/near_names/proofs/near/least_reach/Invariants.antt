use Rattle.std.proofs.Common.{◌≡◌, take}
use Rattle.near_names.specs.Least.{least_reach}
use Rattle.near_names.proofs.near.least_reach.Given as goal

abbrev pub invariant-loop-name : goal.invariant-loop-name
invariant-loop-name l = l.least ≡ least_reach l.word (take l.name-index l.known)
