use Rattle.std.proofs.Common.{◌≡◌, map}
use Rattle.bp_load.proofs.directory.Directory.of.Given as goal

abbrev pub invariant-loop-part : goal.invariant-loop-part
invariant-loop-part l = l.components.items ≡ map (λ part. part.now) l.yielded
