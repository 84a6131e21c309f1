use Rattle.std.proofs.Common.{◌≡◌, vec_len}
use Rattle.module_graph.proofs.parts.Search.close.Given as goal

abbrev pub invariant-loop-member : goal.invariant-loop-member
invariant-loop-member l = vec_len l.self.marks ≡ vec_len l.fn.self.marks

abbrev pub decreases-loop-member : goal.decreases-loop-member
decreases-loop-member l = vec_len l.self.open
