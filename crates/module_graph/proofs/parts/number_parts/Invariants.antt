use Rattle.std.proofs.Common.{◌≡◌, length, vec_len}
use Rattle.module_graph.proofs.parts.number_parts.Given as goal

abbrev pub invariant-loop-n : goal.invariant-loop-n
invariant-loop-n g l = vec_len l.search.marks ≡ length l.g.nodes
