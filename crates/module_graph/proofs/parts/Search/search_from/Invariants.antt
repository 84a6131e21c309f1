use Rattle.std.proofs.Common.{◌≡◌, vec_len}
use Rattle.module_graph.proofs.parts.Search.search_from.Given as goal

abbrev pub invariant-loop-step : goal.invariant-loop-step
invariant-loop-step g l = vec_len l.self.marks ≡ vec_len l.fn.self.marks
