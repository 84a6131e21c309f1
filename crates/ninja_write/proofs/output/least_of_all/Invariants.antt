use Rattle.std.proofs.Common.{◌≤◌, length, take}
use Rattle.std.specs.List.{flat_map}
use Rattle.ninja_write.proofs.output.least_of_all.Given as goal

-- what is counted isn't more than the texts so far
abbrev pub invariant-loop-one : goal.invariant-loop-one
invariant-loop-one g l = l.bytes ≤ length (flat_map g.W.Written.text (take l.one-index l.all))
