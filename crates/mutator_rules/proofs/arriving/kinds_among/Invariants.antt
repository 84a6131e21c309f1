use Rattle.std.proofs.Common.{◌≡◌, map, take}
use Rattle.mutator_rules.proofs.arriving.kinds_among.Given as goal

abbrev pub invariant-loop-arrival : goal.invariant-loop-arrival
invariant-loop-arrival l = l.kinds.items ≡ map (λ a. a.1) (take l.arrival-index l.arrivals)
