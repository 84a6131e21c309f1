use Rattle.std.proofs.Common.{length}
use Rattle.graph_picture.specs.Inside.{IsRead}
use Rattle.graph_picture.proofs.read.read_lines.Given as goal

abbrev pub invariant-loop-rest : goal.invariant-loop-rest
invariant-loop-rest l = IsRead l.bytes l.variants.items l.rest l.line

abbrev pub decreases-loop-rest : goal.decreases-loop-rest
decreases-loop-rest l = length l.rest
