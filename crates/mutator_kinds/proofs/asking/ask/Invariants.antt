use Rattle.std.proofs.Common.{◌≡◌, ◌++◌, map}
use Rattle.mutator_kinds.proofs.asking.ask.Given as goal

abbrev pub invariant-loop-request : goal.invariant-loop-request
invariant-loop-request l = l.asked.items ≡ l.fn.asked.items ++ map (λ r. (l.n, r)) l.yielded
