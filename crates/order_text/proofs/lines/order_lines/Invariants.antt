use Rattle.std.proofs.Common.{length}
use Rattle.order_text.proofs.Read.{IsRead}
use Rattle.order_text.proofs.lines.order_lines.Given as goal

abbrev pub invariant-loop-rest : goal.invariant-loop-rest
invariant-loop-rest l = IsRead l.bytes l.lines.items l.rest

abbrev pub decreases-loop-rest : goal.decreases-loop-rest
decreases-loop-rest l = length l.rest
