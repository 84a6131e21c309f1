use Rattle.std.proofs.Common.{◌≡◌, map}
use Rattle.ninja_read.proofs.book.seconds.Given as goal

-- the parts so far are found
abbrev pub invariant-loop-value : goal.invariant-loop-value
invariant-loop-value g l = l.found.items ≡ map (λ pair. pair.1) l.yielded
